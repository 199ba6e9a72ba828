-- What one look adds to a survey.
use Rattle.std.proofs.Common.{Bool, sym, ◌∙◌, subst}
use Rattle.exact_plane.specs.Point.{Point}
use Rattle.slab_laws.specs.Sound.{IsGraphSound}
use Rattle.slab_laws.specs.View.{View}
use Rattle.counted_looks.specs.declared.boundary_part.BoundaryPart.{BoundaryPart}
use Rattle.locate_walk.proofs.Takes.{looked_may}
use Rattle.locate_landmarks.specs.Lowest.{IsAbove, IsEntry, IsLowered}
use Rattle.locate_landmarks.specs.Surveys.{MaySurvey, HasSurveyedPart}
use Rattle.locate_landmarks.specs.declared.survey.Survey.{Survey}
use Rattle.locate_landmarks.proofs.Lowered.{lowered_trans}

pub survey_may : (v : View) (h l : Survey) (t : BoundaryPart) → HasSurveyedPart h t l → (k : Survey) → MaySurvey v k h → MaySurvey v k l
survey_may v h l t c k m =
    let n = looked_may v h.highest l.highest t c.highest k.highest m.highest in
    let same = m.highest.point ∙ sym n.point in
    let a = subst (λ (g : View). IsAbove g h.highest.point l.descent.lowest) m.highest.graph c.lowest in
    let b = subst (λ (x : Bool). IsLowered v h.highest.point x h.descent.lowest l.descent.lowest) m.downward
    (subst (λ (g : View). IsLowered g h.highest.point h.descent.downward h.descent.lowest l.descent.lowest) m.highest.graph c.lowered) in
    let s = subst IsGraphSound m.highest.graph m.highest.map.sound.graph in
    record {
      highest = n;
      lowest = subst (λ (q : Point). IsAbove v q l.descent.lowest) same a;
      entry = subst (λ (q : Point). IsEntry v q l.descent.entry) same (subst (IsEntry v h.highest.point) (sym c.entry) m.entry);
      lowered = subst (λ (q : Point). IsLowered v q k.descent.downward k.descent.lowest l.descent.lowest) same
          (lowered_trans v h.highest.point s m.highest.proper k.descent.downward k.descent.lowest h.descent.lowest l.descent.lowest m.lowered b);
      downward = c.downward ∙ m.downward;
    }
