use Rattle.arr_text.proofs.RecordTexts.{records_tell_their_graph}
use Rattle.arr_text.proofs.laws.records_tell_their_graph.Goals as goal

pub returns : goal.returns
returns c = records_tell_their_graph
