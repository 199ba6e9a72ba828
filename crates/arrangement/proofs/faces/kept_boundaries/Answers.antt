use Rattle.std.proofs.Common.{◌≡◌, map, ◌∙◌}
use Rattle.std.specs.List.{filter}
use Rattle.slab_laws.specs.declared.names.CycleId.{CycleId}
use Rattle.slab_laws.specs.View.{kind_in}
use Rattle.dcel_records.specs.RecordsView.{RecordsView, lists_of, tables_of}
use Rattle.listed_faces.specs.FaceParts.{is_kind}
use Rattle.arrangement.proofs.FacesRead.{cycles_begin, cycles_end, cycle_listed, cycles_nearer, cycles_go_on, taken}
use Rattle.arrangement.proofs.faces.kept_boundaries.Goals as goal

pub cycles-init : goal.cycles-init
cycles-init c =
    let h : RecordsView = c.args.records.now in
    let p = λ (x : CycleId). is_kind c.args.kind (kind_in (tables_of h) x) in
    cycles_begin (tables_of h) (lists_of h) c.args.face c.face_laws.ensures.listed c.first_cycle_of-at.result (λ done. c.new-found.result.items ≡ map (lists_of h).dart_on (filter p done)) c.first_cycle_of-at.ensures c.new-found.ensures.items

pub push_of_kind-requires : goal.push_of_kind-requires
push_of_kind-requires c =
    let h : RecordsView = c.args.records.now in
    let p = λ (x : CycleId). is_kind c.args.kind (kind_in (tables_of h) x) in
    (cycle_listed (tables_of h) (lists_of h) c.args.face c.face_laws.ensures.listed c.cycles.at (λ done. c.cycles.found.items ≡ map (lists_of h).dart_on (filter p done)) c.cycles.invariant c.in-Some.cycle c.in-Some.is).0

pub cycle_after_in_face-at-requires : goal.cycle_after_in_face-at-requires
cycle_after_in_face-at-requires c =
    let h : RecordsView = c.args.records.now in
    let p = λ (x : CycleId). is_kind c.args.kind (kind_in (tables_of h) x) in
    (cycle_listed (tables_of h) (lists_of h) c.args.face c.face_laws.ensures.listed c.cycles.at (λ done. c.cycles.found.items ≡ map (lists_of h).dart_on (filter p done)) c.cycles.invariant c.in-Some.cycle c.in-Some.is).0

pub cycles-smaller : goal.cycles-smaller
cycles-smaller c =
    let h : RecordsView = c.args.records.now in
    let p = λ (x : CycleId). is_kind c.args.kind (kind_in (tables_of h) x) in
    cycles_nearer (tables_of h) (lists_of h) c.args.face c.face_laws.ensures.listed c.cycles.at (λ done. c.cycles.found.items ≡ map (lists_of h).dart_on (filter p done)) c.cycles.invariant c.in-Some.cycle c.in-Some.is c.cycle_after_in_face-at.result c.cycle_after_in_face-at.ensures

pub cycles-preserved : goal.cycles-preserved
cycles-preserved c =
    let h : RecordsView = c.args.records.now in
    let p = λ (x : CycleId). is_kind c.args.kind (kind_in (tables_of h) x) in
    cycles_go_on (tables_of h) (lists_of h) c.args.face c.face_laws.ensures.listed c.cycles.at (λ done. c.cycles.found.items ≡ map (lists_of h).dart_on (filter p done)) c.cycles.invariant c.in-Some.cycle c.in-Some.is c.cycle_after_in_face-at.result c.cycle_after_in_face-at.ensures
    (λ done. c.push_of_kind.new.found.items ≡ map (lists_of h).dart_on (filter p done))
    (λ done e. c.in_ok-push_of_kind.ensures ∙ taken (lists_of h).dart_on p done c.in-Some.cycle c.cycles.found.items e)

pub returns : goal.returns
returns c =
    let h : RecordsView = c.args.records.now in
    let p = λ (x : CycleId). is_kind c.args.kind (kind_in (tables_of h) x) in
    cycles_end (tables_of h) (lists_of h) c.args.face c.face_laws.ensures.listed c.cycles.at (λ done. c.cycles.found.items ≡ map (lists_of h).dart_on (filter p done)) c.cycles.invariant c.in_default.is
