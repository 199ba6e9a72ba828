use Rattle.planar_run.proofs.Worlds.{first_built}
use Rattle.planar_run.proofs.world.World.new.Goals as goal

pub returns-clause-first : goal.returns-clause-first
returns-clause-first g c =
    first_built c.args.strategy _ c.in_ok-observers.observers.items c.args.observers.items _ _ c.in_ok-red.ensures.first c.in_ok-blue.ensures.first c.in_ok-observers.ensures

pub returns-clause-kept : goal.returns-clause-kept
returns-clause-kept g c = record { current = c.in_ok-red.ensures.kept; other = c.in_ok-blue.ensures.kept }
