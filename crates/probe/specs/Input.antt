-- What a clause reads of an `Input`.
use Rattle.std.specs.Prelude.{ℕ, List}
use Rattle.std.specs.declared.option.Option.{Option}
use Rattle.std.specs.Io.KnownBytes.{Consumes, IsAtEnd}
use Rattle.probe.specs.declared.input.Input.{Input}

-- The offset of the next byte, modulo 2 to the 64.
abbrev pub offset_of : {R : Type 0} → Input R → ℕ
offset_of i = i.offset

-- The bytes that are left to read, where they are known.
abbrev pub left_of : {R : Type 0} → (R → Option (List ℕ)) → Input R → Option (List ℕ)
left_of remaining i = remaining i.from

-- From one input to the other these bytes were read.
abbrev pub Gives : {R : Type 0} → (R → Option (List ℕ)) → Input R → Input R → List ℕ → Type 0
Gives remaining old new bytes = Consumes (left_of remaining old) (left_of remaining new) bytes

-- Nothing is left to read.
abbrev pub IsEnded : {R : Type 0} → (R → Option (List ℕ)) → Input R → Type 0
IsEnded remaining i = IsAtEnd (left_of remaining i)
