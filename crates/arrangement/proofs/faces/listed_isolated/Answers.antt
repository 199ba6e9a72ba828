use Rattle.std.proofs.Common.{◌≡◌, List, [], ◌∷◌, ◌++◌, ap, ◌∙◌}
use Rattle.slab_laws.specs.declared.names.VertexId.{VertexId}
use Rattle.dcel_records.specs.RecordsView.{lists_of, tables_of}
use Rattle.arrangement.proofs.FacesRead.{isolated_begin, isolated_end, vertex_listed, isolated_nearer, isolated_go_on}
use Rattle.arrangement.proofs.faces.listed_isolated.Goals as goal

pub vertices-init : goal.vertices-init
vertices-init c =
    let h = c.args.records.now in
    isolated_begin (tables_of h) (lists_of h) c.args.face c.face_laws.ensures.listed c.first_isolated_in-at.result (λ done. c.new-found.result.items ≡ done) c.first_isolated_in-at.ensures c.new-found.ensures.items

pub isolated_after_in_face-at-requires : goal.isolated_after_in_face-at-requires
isolated_after_in_face-at-requires c =
    let h = c.args.records.now in
    (vertex_listed (tables_of h) (lists_of h) c.args.face c.face_laws.ensures.listed c.vertices.at (λ done. c.vertices.found.items ≡ done) c.vertices.invariant c.in-Some.vertex c.in-Some.is).0

pub vertices-smaller : goal.vertices-smaller
vertices-smaller c =
    let h = c.args.records.now in
    isolated_nearer (tables_of h) (lists_of h) c.args.face c.face_laws.ensures.listed c.vertices.at (λ done. c.vertices.found.items ≡ done) c.vertices.invariant c.in-Some.vertex c.in-Some.is c.isolated_after_in_face-at.result c.isolated_after_in_face-at.ensures

pub vertices-preserved : goal.vertices-preserved
vertices-preserved c =
    let h = c.args.records.now in
    isolated_go_on (tables_of h) (lists_of h) c.args.face c.face_laws.ensures.listed c.vertices.at (λ done. c.vertices.found.items ≡ done) c.vertices.invariant c.in-Some.vertex c.in-Some.is c.isolated_after_in_face-at.result c.isolated_after_in_face-at.ensures
    (λ done. c.push.new.self.items ≡ done) (λ done e. c.in_ok-push.ensures.items ∙ ap (λ (ws : List VertexId). ws ++ (c.in-Some.vertex ∷ [])) e)

pub returns : goal.returns
returns c =
    let h = c.args.records.now in
    isolated_end (tables_of h) (lists_of h) c.args.face c.face_laws.ensures.listed c.vertices.at (λ done. c.vertices.found.items ≡ done) c.vertices.invariant c.in_default.is
