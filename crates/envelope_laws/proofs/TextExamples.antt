-- The texts of envelopes of small presents, computed.
use Rattle.std.proofs.Common.{◌≡◌, pos, [], ◌∷◌, codes, refl}
use Rattle.plane_graphs.specs.Piece.{Present}
use Rattle.slab_laws.proofs.Examples.{piece, opened, at}
use Rattle.envelope_laws.specs.declared.which.Which.TheVariants.{Lower, Upper}
use Rattle.envelope_laws.specs.Envelopes.{is_extreme, is_outermost, outermost, between_all, outline}
use Rattle.envelope_laws.specs.EnvelopeText.{curves_at, corner_line, stretch_line, outline_lines, outline_text, envelope_text}

unfoldable pub all : Unit {0}
unfolding opened is_extreme is_outermost outermost between_all outline curves_at corner_line stretch_line outline_lines outline_text envelope_text
all = tt

-- nothing at all
empty-text : envelope_text Lower (record { pieces = []; pins = [] }) ≡ codes "envelope 0\nend\n"
unfolding all
empty-text = refl

-- a vertical segment alone
post-text : envelope_text Upper (record { pieces = piece 1 (at (pos 1) (pos 0)) (at (pos 1) (pos 2)) ∷ []; pins = [] }) ≡ codes "envelope 1\nv 1 2 1 : 1\nend\n"
unfolding all
post-text = refl

-- a long segment, a short one below it, and one further right
abbrev three : Present
three = record { pieces = piece 1 (at (pos 0) (pos 2)) (at (pos 6) (pos 2)) ∷ piece 2 (at (pos 1) (pos 0)) (at (pos 3) (pos 0)) ∷ piece 3 (at (pos 8) (pos 1)) (at (pos 9) (pos 1)) ∷ []; pins = [] }

three-lower : envelope_text Lower three ≡ codes "envelope 6\nv 0 2 1 : 1\ne 0 2 1 6 2 1 : 1\nv 1 0 1 : 2\ne 1 0 1 3 0 1 : 2\nv 3 0 1 : 2\ne 0 2 1 6 2 1 : 1\nv 6 2 1 : 1\ngap\nv 8 1 1 : 3\ne 8 1 1 9 1 1 : 3\nv 9 1 1 : 3\nend\n"
unfolding all
three-lower = refl

three-upper : envelope_text Upper three ≡ codes "envelope 4\nv 0 2 1 : 1\ne 0 2 1 6 2 1 : 1\nv 6 2 1 : 1\ngap\nv 8 1 1 : 3\ne 8 1 1 9 1 1 : 3\nv 9 1 1 : 3\nend\n"
unfolding all
three-upper = refl

-- a pin on a segment, and one on none between two segments
abbrev pinned : Present
pinned = record { pieces = piece 1 (at (pos 0) (pos 0)) (at (pos 2) (pos 0)) ∷ piece 2 (at (pos 4) (pos 0)) (at (pos 6) (pos 0)) ∷ []; pins = at (pos 1) (pos 0) ∷ at (pos 3) (pos 5) ∷ [] }

pinned-lower : envelope_text Lower pinned ≡ codes "envelope 5\nv 0 0 1 : 1\ne 0 0 1 1 0 1 : 1\nv 1 0 1 : 1\ne 1 0 1 2 0 1 : 1\nv 2 0 1 : 1\ngap\nv 4 0 1 : 2\ne 4 0 1 6 0 1 : 2\nv 6 0 1 : 2\nend\n"
unfolding all
pinned-lower = refl

-- two segments that cross
abbrev crossed : Present
crossed = record { pieces = piece 1 (at (pos 0) (pos 0)) (at (pos 2) (pos 1)) ∷ piece 2 (at (pos 0) (pos 1)) (at (pos 1) (pos 0)) ∷ []; pins = [] }

crossed-lower : envelope_text Lower crossed ≡ codes "envelope 4\nv 0 0 1 : 1\ne 0 0 1 2 1 3 : 1\nv 2 1 3 : 1 2\ne 2 1 3 1 0 1 : 2\nv 1 0 1 : 2\ne 2 1 3 2 1 1 : 1\nv 2 1 1 : 1\nend\n"
unfolding all
crossed-lower = refl
