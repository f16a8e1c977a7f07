-- The promises, proved: no refusal has the number 0, every run that is not refused ends as its outcome's number says, and inference has one outcome only.
use Rattle.std.specs.Prelude.{◌≡◌, refl, ℕ, ◌<◌}
use Rattle.std.proofs.Common.{sym, ap, ◌∙◌, not-suc-le-zero, arith}
use Rattle.rules.specs.Basic.{Verdict, fine, refused}
use Rattle.rules.specs.Calls.{Ending, finished, out_of_fuel, failed_check, Ended, Left, formed, checking, running, stuck_at}
use Rattle.promises.specs.Promises.{Regular, is_done, is_fuel, is_check}
use Rattle.promises.specs.Numbers.{read_check, check_run, infer_run, numbers}
use Rattle.promises.specs.Proofs.{endings, one_inference}
use Rattle.sledkindle.specs.declared.Answer.{Answer}
use Rattle.sledkindle.specs.declared.Ran.{Ran}
use Rattle.sledkindle.specs.Exports.{plain, plain_ran, ending_number, ending_place}
use Rattle.sledkindle.specs.Promises.{Tells, TellsRun, Structs, OneInferred}

-- No refusal has the number 0.
abbrev Numbered : {X : Type 0} → Verdict X → Type 0
Numbered v = (n p : ℕ) → v ≡ refused n p → 0 < n

tells : {X : Type 0} (v : Verdict X) (r : Answer) → r ≡ plain v → Numbered v → Tells v r
tells (fine x) r e h = rw e (record { passed = λ z. (x, refl); refusal = λ l. absurd (not-suc-le-zero l) })
tells (refused n p) r e h = rw e (record { passed = λ z. absurd (omega (arith, h n p refl)); refusal = λ l. refl })

-- A run that was not refused.
ended : (e : Ending) (u : ℕ) → Regular e
    → TellsRun (fine (record { ending = e; units = u })) (record { number = 0; place = ending_place e; outcome = ending_number e; units = u })
ended finished u is_done =
    record {
      refusal = λ l. absurd (not-suc-le-zero l);
      done = λ z o. refl;
      check = λ z l k. absurd (not-suc-le-zero l);
      fuel = λ z o. absurd (omega arith);
      most = omega arith;
    }
ended (out_of_fuel p) u is_fuel =
    record {
      refusal = λ l. absurd (not-suc-le-zero l);
      done = λ z o. absurd (omega arith);
      check = λ z l k. absurd (omega arith);
      fuel = λ z o. refl;
      most = omega arith;
    }
ended (failed_check n p) u (is_check l k) =
    record {
      refusal = λ l. absurd (not-suc-le-zero l);
      done = λ z o. absurd (omega arith);
      check = λ z l k. refl;
      fuel = λ z o. absurd (omega arith);
      most = omega arith;
    }
ended (stuck_at p) u h = elim h [ ]

tells_run : (v : Verdict Ended) (r : Ran) → r ≡ plain_ran v → Numbered v → ((e : Ended) → v ≡ fine e → Regular e.ending) → TellsRun v r
tells_run (fine e) r q h k = rw q (ended e.ending e.units (k e refl))
tells_run (refused n p) r q h k =
    let l : 0 < n = h n p refl in
    rw q (
    record {
      refusal = λ z. refl;
      done = λ z o. absurd (omega arith);
      check = λ z i j. absurd (omega arith);
      fuel = λ z o. absurd (omega arith);
      most = omega arith;
    })

pub structs : Structs
structs =
    record {
      read = λ s r e. tells (formed s) r e (λ n p q. (check_run n (read_check n (numbers.reading s n p q))).0);
      check = λ s m r e. tells (checking s m) r e (λ n p q. (check_run n (numbers.checking s m n p q)).0);
      infer = λ s lent after r x. tells x.verdict r x.says (λ n p q. (infer_run n (numbers.inferring s lent _ n p x.inferred q)).0);
      run = λ s m lent after fuel r b x.
          tells_run (running s m fuel lent).answer r x.says (λ n p q. (numbers.running s m fuel lent n p q).0) (λ e q. endings s m fuel lent e b q);
    }

pub one_inferred : OneInferred
one_inferred s lent after after' r r' x y =
    let e = one_inference s lent _ _ x.inferred y.inferred in
    (x.says ∙ ap (λ (z : Left (Unit {0})). plain z.answer) e ∙ sym y.says, ap (λ (z : Left (Unit {0})). z.lent) e)
