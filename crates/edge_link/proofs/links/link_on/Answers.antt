use Rattle.std.proofs.Common.{subst, sym}
use Rattle.slab_laws.specs.Sound.{IsGraphSound}
use Rattle.slab_laws.specs.View.{HasDart}
use Rattle.edge_link.proofs.Written.{first_known, second_known, still_known, known_led_by, chained}
use Rattle.edge_link.proofs.Placed.{place_known, behind_known, linked_sound}
use Rattle.edge_link.proofs.links.link_on.Goals as goal

pub follow-requires : goal.follow-requires
follow-requires c = first_known c.args.records.now.graph c.add_pair_on.result.0 c.add_pair_on.result.1 c.args.u c.args.v c.args.line c.add_pair_on.ensures.dart c.add_pair_on.ensures.twin c.add_pair_on.ensures.two _ c.add_pair_on.ensures.graph

pub follow-requires-2 : goal.follow-requires-2
follow-requires-2 c = second_known c.args.records.now.graph c.add_pair_on.result.0 c.add_pair_on.result.1 c.args.u c.args.v c.args.line c.add_pair_on.ensures.dart c.add_pair_on.ensures.twin c.add_pair_on.ensures.two _ _ _ c.add_pair_on.ensures.graph c.follow.ensures.graph

pub lead-requires : goal.lead-requires
lead-requires c e q =
    still_known c.args.records.now.graph c.add_pair_on.result.0 c.add_pair_on.result.1 c.args.u c.args.v c.args.line c.add_pair_on.ensures.dart c.add_pair_on.ensures.twin c.add_pair_on.ensures.two _ _ _ _ _ c.add_pair_on.ensures.graph c.follow.ensures.graph c.follow-2.ensures.graph e
    (behind_known c.args.records.now.graph c.args.at_u _ c.requires.sound.twinned (place_known _ _ _ _ c.requires.fits.place_at_start) c.behind-behind_u.ensures e q)

pub lead-requires-2 : goal.lead-requires-2
lead-requires-2 c e q =
    subst (λ h. HasDart h e) (sym c.lead.ensures.graph) (known_led_by _ _ _ e
    (still_known c.args.records.now.graph c.add_pair_on.result.0 c.add_pair_on.result.1 c.args.u c.args.v c.args.line c.add_pair_on.ensures.dart c.add_pair_on.ensures.twin c.add_pair_on.ensures.two _ _ _ _ _ c.add_pair_on.ensures.graph c.follow.ensures.graph c.follow-2.ensures.graph e
    (behind_known c.args.records.now.graph c.args.at_v _ c.requires.sound.twinned (place_known _ _ _ _ c.requires.fits.place_at_end) c.behind-behind_v.ensures e q)))

pub returns-clause-graph : goal.returns-clause-graph
returns-clause-graph c =
    chained c.args.records.now.graph c.add_pair_on.result.0 c.add_pair_on.result.1 c.args.u c.args.v c.args.line c.add_pair_on.ensures.dart c.add_pair_on.ensures.twin c.add_pair_on.ensures.two
    _ _ _ _ _ c.args.at_u c.args.at_v _ _ _ _ c.requires.sound.named c.add_pair_on.ensures.graph c.follow.ensures.graph c.follow-2.ensures.graph c.lead.ensures.graph c.lead-2.ensures.graph
    c.ahead-ahead_u.ensures c.ahead-ahead_v.ensures c.behind-behind_u.ensures c.behind-behind_v.ensures

pub returns-clause-sound : goal.returns-clause-sound
returns-clause-sound c =
    subst IsGraphSound (sym (chained c.args.records.now.graph c.add_pair_on.result.0 c.add_pair_on.result.1 c.args.u c.args.v c.args.line c.add_pair_on.ensures.dart c.add_pair_on.ensures.twin c.add_pair_on.ensures.two
    _ _ _ _ _ c.args.at_u c.args.at_v _ _ _ _ c.requires.sound.named c.add_pair_on.ensures.graph c.follow.ensures.graph c.follow-2.ensures.graph c.lead.ensures.graph c.lead-2.ensures.graph
    c.ahead-ahead_u.ensures c.ahead-ahead_v.ensures c.behind-behind_u.ensures c.behind-behind_v.ensures))
    (linked_sound c.args.records.now.graph c.add_pair_on.result.0 c.add_pair_on.result.1 c.args.u c.args.v c.args.at_u c.args.at_v c.args.line c.requires.sound c.requires.fits c.laws.ensures c.add_pair_on.ensures.dart c.add_pair_on.ensures.twin c.add_pair_on.ensures.two)
