-- What the cases of the kinds, sorts, relations and operators of src/ mean. Assumes nothing.
use Rattle.alpha.specs.Sheet as Sheet
use Rattle.alpha.specs.declared.kind.Kind.{Kind}
use Rattle.alpha.specs.declared.kind.Kind.TheVariants.{Input, Output, Local}
use Rattle.alpha.specs.declared.kind.Sort.{Sort}
use Rattle.alpha.specs.declared.kind.Sort.TheVariants.{Integer, Boolean}
use Rattle.alpha.specs.declared.kind.Relation.{Relation}
use Rattle.alpha.specs.declared.kind.Relation.TheVariants.{AtLeast, Equal}
use Rattle.alpha.specs.declared.kind.Unary.{Unary}
use Rattle.alpha.specs.declared.kind.Unary.TheVariants.{Negate, Complement}
use Rattle.alpha.specs.declared.kind.Binary.{Binary}
use Rattle.alpha.specs.declared.kind.Binary.TheVariants.{Plus, Minus, Times, Quotient, Remainder, Least, Most, Same, Differ, Under, UpTo, Over, From, Both, Either, One}

abbrev pub kind_meant : Kind → Sheet.Kind
kind_meant Input = Sheet.Kind.input
kind_meant Output = Sheet.Kind.output
kind_meant Local = Sheet.Kind.local

abbrev pub sort_meant : Sort → Sheet.Sort
sort_meant Integer = Sheet.Sort.integer
sort_meant Boolean = Sheet.Sort.boolean

abbrev pub relation_meant : Relation → Sheet.Relation
relation_meant AtLeast = Sheet.Relation.at_least
relation_meant Equal = Sheet.Relation.equal

abbrev pub unary_meant : Unary → Sheet.Unary
unary_meant Negate = Sheet.Unary.negate
unary_meant Complement = Sheet.Unary.complement

abbrev pub binary_meant : Binary → Sheet.Binary
binary_meant Plus = Sheet.Binary.plus
binary_meant Minus = Sheet.Binary.minus
binary_meant Times = Sheet.Binary.times
binary_meant Quotient = Sheet.Binary.quot
binary_meant Remainder = Sheet.Binary.rem
binary_meant Least = Sheet.Binary.least
binary_meant Most = Sheet.Binary.most
binary_meant Same = Sheet.Binary.same
binary_meant Differ = Sheet.Binary.differ
binary_meant Under = Sheet.Binary.under
binary_meant UpTo = Sheet.Binary.up_to
binary_meant Over = Sheet.Binary.over
binary_meant From = Sheet.Binary.from
binary_meant Both = Sheet.Binary.both
binary_meant Either = Sheet.Binary.either
binary_meant One = Sheet.Binary.one
