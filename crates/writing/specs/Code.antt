-- What the code's own cases say.
use Rattle.writing.specs.Given as given
use Rattle.writing.specs.declared.Given.{Given}
use Rattle.writing.specs.declared.Given.TheVariants as item

abbrev pub told_given : Given → given.Held
told_given (item.Item x) = given.held x
told_given item.None = given.no_record
