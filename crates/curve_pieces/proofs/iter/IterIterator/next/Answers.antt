use Rattle.std.proofs.Common.{ℕ, length, map, sym, ap, ◌∙◌, arith}
use Rattle.slab_laws.specs.declared.present.Piece.{Piece}
use Rattle.curve_pieces.proofs.Read.{ended, first_piece, is_there, rest_after}
use Rattle.curve_pieces.proofs.iter.IterIterator.next.Goals as goal

pub index-row-requires : goal.index-row-requires
index-row-requires c = is_there c.self.inside.rows.now c.self.inside.at c.self.invariant c.in-Some.name c.in-Some.is

pub invariant_of-self : goal.invariant_of-self
invariant_of-self c = rest_after c.self.inside.rows.now c.self.inside.at c.self.invariant c.in-Some.name c.in-Some.is _ c.index-row.ensures

pub returns-clause-steps : goal.returns-clause-steps
returns-clause-steps c = sym c.self.view_is ∙ first_piece c.self.inside.rows.now c.self.inside.at c.self.invariant c.in-Some.name c.in-Some.is _ c.index-row.ensures

pub returns-in_default-clause-steps : goal.returns-in_default-clause-steps
returns-in_default-clause-steps c = let e = sym c.self.view_is ∙ ap (map (λ (z : ℕ × Piece). z.1)) (ended c.self.inside.rows.now c.self.inside.at c.self.invariant c.in_default.is) in (e, e)

pub returns-clause-goes : goal.returns-clause-goes
returns-clause-goes c =
    let e = ap length (sym c.self.view_is ∙ first_piece c.self.inside.rows.now c.self.inside.at c.self.invariant c.in-Some.name c.in-Some.is _ c.index-row.ensures) in
    record { on = λ f. (tt, tt, omega (arith, e)); keeps = tt; rests = λ f. tt }
