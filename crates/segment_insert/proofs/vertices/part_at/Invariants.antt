use Rattle.slab_laws.specs.declared.names.DartId.{DartId}
use Rattle.segment_insert.specs.Coming.{LeadsTo, HasPart}
use Rattle.segment_insert.proofs.VerticesWalk.{to_pass}
use Rattle.segment_insert.proofs.vertices.part_at.Given as goal

abbrev pub invariant-parts : goal.invariant-parts
invariant-parts l = record {
  ahead : HasPart l.records.graph l.point l.part;
  back : (e : DartId) → LeadsTo l.records.graph l.point e l.part → LeadsTo l.records.graph l.point e l.fn.dart;
}

abbrev pub decreases-parts : goal.decreases-parts
decreases-parts l = to_pass l.records.graph l.point l.part
