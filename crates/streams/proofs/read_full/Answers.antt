-- What one read gave joins what was read before it.
use Rattle.std.proofs.Common.{◌≡◌, ℕ, ◌+◌, ◌-◌, ◌≤◌, List, ◌++◌, rules, length, length-take-le, take, subst, sym, ap, ◌∙◌}
use Rattle.std.proofs.Math.Seq.{take-append-add}
use Rattle.std.specs.Io.KnownBytes.{Consumes}
use Rattle.std.proofs.KnownBytes.{Consumes-trans}
use borrow.Rule.Slice.PartMut.{put_mid, post_of}
use lib.Seq.{take-append-le}
use Rattle.streams.proofs.read_full.Goals as goal

-- The first n of the entries that were written from a on.
take-put_mid-part : (a k n : ℕ) (xs ys : List ℕ) → a ≤ length xs → n ≤ length ys → take (a + n) (put_mid a k xs ys) ≡ take a xs ++ take n ys
take-put_mid-part a k n xs ys within fits =
    let after = post_of a k xs in
    ap (λ m. take (m + n) (put_mid a k xs ys)) (sym (length-take-le a xs within)) ∙ take-append-add (take a xs) (ys ++ after) n ∙ ap (λ l. take a xs ++ l) (take-append-le n ys after fits)

pub loop-got-preserved : goal.loop-got-preserved
loop-got-preserved g c =
    let part = take-put_mid-part c.loop-got.got (length c.loop-got.buf - c.loop-got.got) c.in_ok-n.n c.loop-got.buf c.read.new.buf c.loop-got.invariant.within c.in_ok-n.ensures.bound.0 in
    record {
      within = search rules;
      bytes = subst (Consumes _ _) (sym part) (Consumes-trans _ _ _ _ _ c.loop-got.invariant.bytes c.in_ok-n.ensures.bytes.0);
    }
