use Rattle.std.proofs.Common.{◌∷◌, inl, [], refl, sym, ap, map, subst, ◌∙◌, ◌==◌, ◌≤◌}
use Rattle.std.specs.List.{IsDistinct}
use Rattle.std.proofs.lemmas.Bool.{false≢true}
use Rattle.std.proofs.lemmas.List.{map-append}
use Rattle.observer_bus.specs.Rows.{row}
use Rattle.observer_bus.proofs.Apart.{apart_added, placed_name}
use Rattle.observer_bus.proofs.Seating.{few_added, full_by, may_add, open_by, taken_by}
use Rattle.observer_bus.proofs.bus.Bus.attach.Goals as goal

pub returns-then-has_name : goal.returns-then-has_name
returns-then-has_name g c =
    let n = rw c.deref.ensures.value at c.has_name.ensures in record {
      refused = taken_by (row (goal.Observer-dyn g)) c.args.name c.args.self.now.seats.items _ n c.if-has_name.true;
      same = λ e. refl;
      back = inl refl;
      err = refl;
      attached = tt;
    }

pub returns-then-len-eq-SEATS : goal.returns-then-len-eq-SEATS
returns-then-len-eq-SEATS g c =
    let n = rw c.deref.ensures.value at c.has_name.ensures in record {
      refused = full_by (row (goal.Observer-dyn g)) c.args.name c.args.self.now.seats.items _ n c.if-has_name.false (sym c.args.self.now.seats.ok.0 ∙ sym c.len.ensures ∙ c.if-len-eq-SEATS.true);
      same = λ e. refl;
      back = inl refl;
      err = refl;
      attached = tt;
    }

pub placed-requires : goal.placed-requires
placed-requires g c = record { when = c.requires.when; sound = c.requires.sound }

pub returns-in-Err : goal.returns-in-Err
returns-in-Err g c =
    let n = rw c.deref.ensures.value at c.has_name.ensures in record {
      refused = sym (open_by (row (goal.Observer-dyn g)) c.args.name c.args.self.now.seats.items _ n c.if-has_name.false (λ e. c.if-len-eq-SEATS.false (c.len.ensures ∙ c.args.self.now.seats.ok.0 ∙ e)));
      same = λ other. absurd (other refl);
      back = c.in-Err.ensures.back;
      err = refl;
      attached = tt;
    }

pub returns : goal.returns
returns g c =
    let n = rw c.deref.ensures.value at c.has_name.ensures in record {
      refused = open_by (row (goal.Observer-dyn g)) c.args.name c.args.self.now.seats.items _ n c.if-has_name.false (λ e. c.if-len-eq-SEATS.false (c.len.ensures ∙ c.args.self.now.seats.ok.0 ∙ e));
      same = tt;
      back = tt;
      err = tt;
      attached = record {
        seated = (row (goal.Observer-dyn g)) c.in-Ok.seat;
        placed = c.in-Ok.ensures.placed;
        last = ap (map (row (goal.Observer-dyn g))) c.push_reserved.ensures.items ∙ map-append (row (goal.Observer-dyn g)) c.args.self.now.seats.items (c.in-Ok.seat ∷ []);
        went = refl;
        settled = refl;
      };
    }

pub push_reserved-requires : goal.push_reserved-requires
push_reserved-requires g c = may_add _ _ _ c.args.self.now.seats.ok.0 c.args.self.now.few (λ e. c.if-len-eq-SEATS.false (c.len.ensures ∙ c.args.self.now.seats.ok.0 ∙ e)) c.args.self.now.room

pub invariant_of-self : goal.invariant_of-self
invariant_of-self g c =
    let n = rw c.deref.ensures.value at c.has_name.ensures in
    let items = c.push_reserved.ensures.items in record {
      few = few_added c.args.self.now.seats.items _ c.in-Ok.seat items c.args.self.now.few (λ e. c.if-len-eq-SEATS.false (c.len.ensures ∙ c.args.self.now.seats.ok.0 ∙ e));
      room = subst (λ n. 8 ≤ n) (sym c.push_reserved.ensures.capacity) c.args.self.now.room;
      apart = subst (λ ss. IsDistinct ◌==◌ (map (λ s. s.name) ss)) (sym items)
          (apart_added (λ s. s.name) c.args.self.now.seats.items c.args.self.now.apart c.in-Ok.seat c.has_name.result c.args.name n c.if-has_name.false (placed_name _ _ _ _ c.in-Ok.ensures.placed));
      name_room = λ t. absurd (false≢true t);
    }
