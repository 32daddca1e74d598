-- The word for what a fault's line says is refused.
use Rattle.std.specs.Prelude.{List, ℕ}
use Rattle.definition.specs.Program.{file_text, model_text, call_text}
use Rattle.text.specs.declared.Part.{Part}
use Rattle.text.specs.declared.Part.TheVariants.{File, Model, Call}

abbrev pub part_text : Part → List ℕ
part_text File = file_text
part_text Model = model_text
part_text Call = call_text
