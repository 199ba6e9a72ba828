use Rattle.std.proofs.Common.{true, refl, ap}
use Rattle.arr_notes.specs.declared.change.Change.TheVariants.{SetPin}
use Rattle.arr_notes.specs.declared.intent.Intent.TheVariants.{SetPin as WillSetPin}
use Rattle.curve_history.specs.Past.{curves_on}
use Rattle.dcel_records.specs.RecordsView.{FacesView}
use Rattle.dcel_records.specs.SoundMaps.{map_of}
use Rattle.told_steps.proofs.MapsKept.{pin_is_set}
use Rattle.told_steps.proofs.Steps.{pinned_now}
use Rattle.told_steps.proofs.ToldOnce.{HasMade, changed_by, strands_by, told_by}
use Rattle.told_steps.proofs.pins.set_pin.Given as given
use Rattle.told_steps.proofs.pins.set_pin.Goals.{After-set_pin}
use Rattle.told_steps.proofs.pins.set_pin.Goals as goal

made : (g : given.Over) (c : After-set_pin g) → HasMade (map_of c.args.records.now) (curves_on c.args.history.now) (SetPin c.args.v) (map_of c.set_pin.new.self) (curves_on c.args.history.now)
made g c =
    let e = c.set_pin.ensures in
    record {
      view = λ i. record { graph = e.graph i; faces = (e.faces i).tables };
      curves = λ d. refl;
      fits = c.requires.vertex;
      noted = tt;
      listed = tt;
      sound = pinned_now c.args.records.now.graph c.args.v true c.requires.in_step.sound.graph c.set_pin.new.self.graph e.graph;
    }

pub tell_after-requires : goal.tell_after-requires
tell_after-requires g c = record { changed = changed_by (made g (goal.at.tell_after-requires g c).After-set_pin) c.tell_before.ensures.in_step }

pub returns-clause-told : goal.returns-clause-told
returns-clause-told g c = told_by (made g (goal.at.returns-clause-told g c).After-set_pin) c.requires.in_step.sound _ refl _ (ap WillSetPin c.point-p.ensures) c.tell_before.ensures.round c.tell_after.ensures.round

pub returns-clause-map : goal.returns-clause-map
returns-clause-map g c =
    let a = (goal.at.returns-clause-map g c).After-set_pin in
    let e = c.set_pin.ensures in
    pin_is_set c.args.records.now c.set_pin.new.self c.requires.map (made g a).sound (ap (λ (f : FacesView). f.moved) e.faces) c.args.v true e.graph e.faces

pub returns-clause-strands : goal.returns-clause-strands
returns-clause-strands g c = let o = made g (goal.at.returns-clause-strands g c).After-set_pin in strands_by c.args.history.now o c.requires.in_step c.args.history.now o.fits (λ d. refl)
