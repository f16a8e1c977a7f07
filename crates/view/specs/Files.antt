-- The routine of a file that is asked through its view.
use Rattle.rules.specs.Table.{Routine, routine}
use Rattle.view.specs.declared.View.{View}

abbrev pub routine_of : View → Routine
routine_of v = routine v.bytes.now v.at
