-- What is printed of a file that was read (docs/PROBE.md).
use Rattle.std.specs.Prelude.{ℕ, List, ◌++◌}
use lib.Chars.{codes}
use Rattle.std.specs.Fmt.{decimal}
use Rattle.rules.specs.declared.Starts.{Starts}

-- `read` and the places of the five counts.
abbrev pub places_text : Starts → List ℕ
places_text s =
    codes "read " ++ decimal s.types ++ codes " " ++ decimal s.homes ++ codes " " ++ decimal s.exprs
    ++ codes " " ++ decimal s.commands ++ codes " " ++ decimal s.values
