use Rattle.std.proofs.Common.{refl, sym, ◌∙◌, inl, inr}
use Rattle.std.proofs.lemmas.Bool.{true≢false}
use Rattle.edge_link.proofs.splitting.halves_asked.Goals.{then-both_outer, else-both_outer}
use Rattle.edge_link.proofs.splitting.halves_asked.Goals as goal

pub returns-then-is_odd_beside : goal.returns-then-is_odd_beside
returns-then-is_odd_beside c =
    record {
      ends = inl (refl, refl);
      which = (c.requires.asked, c.extent_where.ensures);
      asked = inl (
        refl,
        elim c.if-both_outer.branch [
          | then-both_outer w ↦ inl w.if-both_outer.true
          | else-both_outer w ↦ inr (sym w.is_odd_beside.ensures ∙ sym w.value-is ∙ c.if-is_odd_beside.true)
        ],
      );
    }

pub returns-else-is_odd_beside : goal.returns-else-is_odd_beside
returns-else-is_odd_beside c =
    record {
      ends = inr (refl, refl);
      which = (c.requires.asked, c.extent_where.ensures);
      asked = elim c.if-both_outer.branch [
        | then-both_outer w ↦ absurd (true≢false (sym w.if-both_outer.true ∙ sym w.value-is ∙ c.if-is_odd_beside.false))
        | else-both_outer w ↦ inr (refl, w.if-both_outer.false, sym w.is_odd_beside.ensures ∙ sym w.value-is ∙ c.if-is_odd_beside.false)
      ];
    }
