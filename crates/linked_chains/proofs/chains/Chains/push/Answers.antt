use Rattle.std.proofs.Common.{refl, sym, ap, ◌∙◌, subst, arith}
use Rattle.std.specs.Prelude.{Some, None, is_some}
use Rattle.std.specs.Option.{option_copied_mut}
use Rattle.linked_chains.specs.Chains.{Chained, HasKey}
use Rattle.linked_chains.proofs.Heads.{head_written, headed_keys}
use Rattle.linked_chains.proofs.Reading.{row_lookup}
use Rattle.linked_chains.proofs.Seen.{first_seen, node_absent}
use Rattle.linked_chains.proofs.Writing.{heads_kept, old_first_there, push_entries, push_kept, push_here, push_others}
use Rattle.linked_chains.proofs.chains.Chains.push.Goals as goal
use Rattle.plane_graphs.proofs.Lists.{some_mapped}

pub unwrap-head-requires : goal.unwrap-head-requires
unwrap-head-requires c =
    sym (some_mapped _ c.get_mut.result) ∙ ap is_some (c.get_mut.ensures.value ∙ sym (row_lookup c.self.inside.heads.entries c.args.key)) ∙ subst (λ (h : Chained). HasKey h c.args.key) (sym c.self.view_is) c.requires.has

pub some-here-requires : goal.some-here-requires
some-here-requires c = omega (arith, c.insert_reserved-node.ensures.key_in_range, c.insert_reserved-node.ensures.capacity, c.capacity-capacity.ensures.value)

pub set_before-requires : goal.set_before-requires
set_before-requires c = old_first_there c.self.inside.heads c.self.inside.nodes _ c.self.view_is c.self.invariant c.insert_reserved-node.result (record { key = c.args.key; item = c.args.item; twin = c.args.twin }) c.unwrap-head.result.now c.insert_reserved-node.new.self c.insert_reserved-node.ensures.was_vacant (first_seen c.self.inside.heads c.self.inside.nodes _ c.self.view_is c.self.invariant c.args.key (Some c.unwrap-head.result.now) (sym c.get_mut.ensures.value ∙ ap option_copied_mut c.unwrap-head.ensures)) c.none.result c.none.ensures c.insert_reserved-node.ensures.updates

pub invariant_of-self : goal.invariant_of-self
invariant_of-self c = push_kept c.self.inside.heads c.self.inside.nodes _ c.self.view_is c.self.invariant c.insert_reserved-node.result (record { key = c.args.key; item = c.args.item; twin = c.args.twin }) c.unwrap-head.result.now c.insert_reserved-node.new.self c.insert_reserved-node.ensures.was_vacant (first_seen c.self.inside.heads c.self.inside.nodes _ c.self.view_is c.self.invariant c.args.key (Some c.unwrap-head.result.now) (sym c.get_mut.ensures.value ∙ ap option_copied_mut c.unwrap-head.ensures)) c.none.result c.none.ensures c.insert_reserved-node.ensures.updates c.set_before.new.nodes c.some-here.result c.some-here.ensures c.set_before.ensures (c.get_mut.follows.lender c.some-here.result) (head_written c.self.inside.heads _ c.args.key None c.some-here.result refl (subst (λ (h : Chained). HasKey h c.args.key) (sym c.self.view_is) c.requires.has) (c.get_mut.follows.holds c.some-here.result)).heads

pub returns-clause-name : goal.returns-clause-name
returns-clause-name c = node_absent c.self.inside.heads c.self.inside.nodes _ c.self.view_is c.insert_reserved-node.result c.insert_reserved-node.ensures.was_vacant

pub returns-clause-entries : goal.returns-clause-entries
returns-clause-entries c = push_entries c.self.inside.heads c.self.inside.nodes _ c.self.view_is c.self.invariant c.insert_reserved-node.result (record { key = c.args.key; item = c.args.item; twin = c.args.twin }) c.unwrap-head.result.now c.insert_reserved-node.new.self c.insert_reserved-node.ensures.was_vacant (first_seen c.self.inside.heads c.self.inside.nodes _ c.self.view_is c.self.invariant c.args.key (Some c.unwrap-head.result.now) (sym c.get_mut.ensures.value ∙ ap option_copied_mut c.unwrap-head.ensures)) c.none.result c.none.ensures c.insert_reserved-node.ensures.updates c.set_before.new.nodes c.some-here.result c.some-here.ensures c.set_before.ensures (c.get_mut.follows.lender c.some-here.result)

pub returns-clause-here : goal.returns-clause-here
returns-clause-here c = push_here c.self.inside.heads c.self.inside.nodes _ c.self.view_is c.self.invariant c.insert_reserved-node.result (record { key = c.args.key; item = c.args.item; twin = c.args.twin }) c.unwrap-head.result.now c.insert_reserved-node.new.self c.insert_reserved-node.ensures.was_vacant (first_seen c.self.inside.heads c.self.inside.nodes _ c.self.view_is c.self.invariant c.args.key (Some c.unwrap-head.result.now) (sym c.get_mut.ensures.value ∙ ap option_copied_mut c.unwrap-head.ensures)) c.none.result c.none.ensures c.insert_reserved-node.ensures.updates c.set_before.new.nodes c.some-here.result c.some-here.ensures c.set_before.ensures (c.get_mut.follows.lender c.some-here.result) (head_written c.self.inside.heads _ c.args.key None c.some-here.result refl (subst (λ (h : Chained). HasKey h c.args.key) (sym c.self.view_is) c.requires.has) (c.get_mut.follows.holds c.some-here.result)).heads

pub returns-clause-others : goal.returns-clause-others
returns-clause-others c = push_others c.self.inside.heads c.self.inside.nodes _ c.self.view_is c.self.invariant c.insert_reserved-node.result (record { key = c.args.key; item = c.args.item; twin = c.args.twin }) c.unwrap-head.result.now c.insert_reserved-node.new.self c.insert_reserved-node.ensures.was_vacant (first_seen c.self.inside.heads c.self.inside.nodes _ c.self.view_is c.self.invariant c.args.key (Some c.unwrap-head.result.now) (sym c.get_mut.ensures.value ∙ ap option_copied_mut c.unwrap-head.ensures)) c.none.result c.none.ensures c.insert_reserved-node.ensures.updates c.set_before.new.nodes c.some-here.result c.some-here.ensures c.set_before.ensures (c.get_mut.follows.lender c.some-here.result) (head_written c.self.inside.heads _ c.args.key None c.some-here.result refl (subst (λ (h : Chained). HasKey h c.args.key) (sym c.self.view_is) c.requires.has) (c.get_mut.follows.holds c.some-here.result)).heads

pub returns-clause-keys : goal.returns-clause-keys
returns-clause-keys c =
    heads_kept c.self.inside.heads c.self.inside.nodes _ c.self.view_is c.self.invariant (c.get_mut.follows.lender c.some-here.result)
    (headed_keys c.self.inside.heads _ c.args.key None c.some-here.result (head_written c.self.inside.heads _ c.args.key None c.some-here.result refl (subst (λ (h : Chained). HasKey h c.args.key) (sym c.self.view_is) c.requires.has) (c.get_mut.follows.holds c.some-here.result)) (subst (λ (h : Chained). HasKey h c.args.key) (sym c.self.view_is) c.requires.has))
