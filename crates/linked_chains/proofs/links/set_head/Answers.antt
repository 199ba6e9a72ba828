use Rattle.std.proofs.Common.{is_some, not, sym, ap, ◌∙◌}
use Rattle.linked_chains.proofs.Heads.{head_written}
use Rattle.linked_chains.proofs.Reading.{row_lookup}
use Rattle.linked_chains.proofs.links.set_head.Goals as goal
use Rattle.plane_graphs.proofs.Lists.{some_mapped}

pub unwrap-requires : goal.unwrap-requires
unwrap-requires g c = sym (some_mapped _ c.get_mut.result) ∙ ap is_some (c.get_mut.ensures.value ∙ sym (row_lookup c.args.heads.now.entries c.args.key)) ∙ c.requires

pub returns-then-is_none : goal.returns-then-is_none
returns-then-is_none g c = head_written c.args.heads.now _ c.args.key c.args.before c.args.first (ap not (c.is_none.ensures ∙ ap not c.if-is_none.true)) c.requires (c.get_mut.follows.holds c.args.first)
