-- What a clause reads of `Lines`.
use Rattle.std.specs.Prelude.{ℕ, List}
use Rattle.probe.specs.declared.lines.Lines.{Lines}

-- The bytes that wait to be written.
abbrev pub waiting : {W : Type 0} → Lines W → List ℕ
waiting l = l.waiting.items
