-- The type of a row is the rule's over the table, whose entries below the row are right.
use Rattle.std.proofs.Common.{ap, refl, inl, inr}
use Rattle.view.specs.declared.TypeRow.{TypeRow}
use Rattle.reader.proofs.Shapes.{earlier_type, type_is, type_home}
use Rattle.reader.proofs.shape.row_type.Goals as goal

pub type_row-requires : goal.type_row-requires
type_row-requires c = earlier_type c.requires.typed c.requires.row c.in-Read.ensures.names

pub returns-in-Literal : goal.returns-in-Literal
returns-in-Literal c = type_is c.requires.typed c.requires.row c.expr.ensures.says (elim c.in-Literal.is [ inl p ↦ rw p.1 refl | inr p ↦ rw p.3 refl ])

pub returns-in-Home : goal.returns-in-Home
returns-in-Home c = type_home c.requires.typed c.requires.row c.in-Home.ensures.says c.in-Home.ensures.names c.home_row.ensures

pub returns-in-Cast : goal.returns-in-Cast
returns-in-Cast c = type_is c.requires.typed c.requires.row c.in-Cast.ensures.says refl

pub returns-in-Null : goal.returns-in-Null
returns-in-Null c = type_is c.requires.typed c.requires.row c.in-Null.ensures.says refl

pub returns-in-Sum : goal.returns-in-Sum
returns-in-Sum c = type_is c.requires.typed c.requires.row c.in-Sum.ensures.says refl

pub returns-in-Read : goal.returns-in-Read
returns-in-Read c = type_is c.requires.typed c.requires.row c.in-Read.ensures.says (ap (λ (x : TypeRow). x.target) c.type_row.ensures)
