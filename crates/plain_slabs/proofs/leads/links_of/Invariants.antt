use Rattle.std.proofs.Common.{◌≡◌, take}
use Rattle.dart_orbits.specs.CycleLinks.{place_links}
use Rattle.plain_slabs.proofs.leads.links_of.Given as goal

abbrev pub invariant-loop-one : goal.invariant-loop-one
invariant-loop-one l = l.links.items ≡ take l.one (place_links l.nexts)
