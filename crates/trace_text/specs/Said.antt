-- What was read of a line, as contracts see it.
use Rattle.adfs_base.specs.declared.part_word.PartWord.{PartWord}
use Rattle.adfs_base.specs.declared.part_word.PartWord.TheVariants as part
use Rattle.trace_text.specs.declared.said.PartSaid.{PartSaid}
use Rattle.trace_text.specs.declared.said.PartSaid.TheVariants as said

abbrev pub part_seen : PartSaid → PartWord
part_seen said.Modulo = part.Modulo
part_seen said.Block = part.Block
part_seen (said.Listed file) = part.Listed file.now
