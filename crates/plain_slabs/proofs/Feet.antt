-- The link above an edge that passes through a wall, from its places in the slabs beside the wall.
use Rattle.std.proofs.Common.{◌≡◌, ℕ, ◌+◌, ◌<◌, ◌≤◌, true, arith, sym, ap, ◌∙◌, List, map, length, slice_index_or}
use Rattle.std.specs.Prelude.{not}
use Rattle.std.specs.List.{count_by, Contains}
use Rattle.std.proofs.lemmas.Bool.{and_parts}
use Rattle.std.proofs.lemmas.List.{length-map, get_or-map}
use Rattle.exact_plane.specs.Point.{Point}
use Rattle.exact_plane.specs.Span.{Span}
use Rattle.plane_graphs.specs.Graph.{Edge}
use Rattle.slab_laws.specs.SpansDrawn.{edge_of, drawn}
use Rattle.slab_laws.specs.Skeleton.{Skeleton, IsPlaneSkeleton, left_of, foot}
use Rattle.slab_laws.specs.Faces.{passes, link_at}
use Rattle.slab_laws.specs.Slabs.{spans, place, slab_left, slab_right, left_count, right_count, reaches_left, reaches_right}
use Rattle.slab_faces.proofs.Along.{count_above, left_reach, right_reach}
use Rattle.slab_faces.proofs.Member.{member_in, in_member, map_in}
use Rattle.slab_faces.proofs.Slabs.{IsThrough, run_through}
use Rattle.slab_faces.proofs.Turns.{foot_before, foot_after, foot_is_on, on_own_wall}
use Rattle.plain_slabs.specs.PlaceTables.{reach_in, table, place_in, places_in}
use Rattle.plain_slabs.proofs.Reached.{length_places, place_at, place_is, place_few}

pub record IsFoot (g : Skeleton) (e : Edge) (v : Point) : Type 0 where
  pub before : left_count g (foot e v) ≡ place g (slab_left g v) e + 1
  pub after : right_count g (foot e v) ≡ place g (slab_right g v) e + 1
  pub left : slab_left g (foot e v) ≡ slab_left g v
  pub right : slab_right g (foot e v) ≡ slab_right g v
  pub spans_before : spans g (slab_left g v) e ≡ true
  pub spans_after : spans g (slab_right g v) e ≡ true

pub foot_is : (g : Skeleton) (e : Edge) (v : Point) → IsPlaneSkeleton g → Contains g.vertices v → Contains g.edges e → passes v e ≡ true → IsFoot g e v
foot_is g e v plane V E h =
    let a = and_parts (left_of e.low v) (left_of v e.high) h in
    let th : IsThrough e v = record { from = a.0; to = a.1 } in
    let wall = on_own_wall g v plane V in
    let o = foot_is_on g e v plane wall E th in
    let R = run_through g e v plane E wall.proper th in
    let sl : slab_left g (foot e v) ≡ slab_left g v = λ i. count_by (λ u. foot_before e v u R i) g.vertices in
    let sr : slab_right g (foot e v) ≡ slab_right g v = λ i. count_by (λ u. not (foot_after e v u R i)) g.vertices in
    let l = left_reach g (foot e v) plane o.wall in
    let r = right_reach g (foot e v) plane o.wall in
    record {
      before = count_above g e (foot e v) (slab_left g (foot e v)) (λ f. reaches_left f (foot e v)) o l ∙ ap (λ i. place g i e + 1) sl;
      after = count_above g e (foot e v) (slab_right g (foot e v)) (λ f. reaches_right f (foot e v)) o r ∙ ap (λ i. place g i e + 1) sr;
      left = sl;
      right = sr;
      spans_before = ap (λ i. spans g i e) (sym sl) ∙ l.sided.spanned e E ∙ l.reaches e o.through;
      spans_after = ap (λ i. spans g i e) (sym sr) ∙ r.sided.spanned e E ∙ r.reaches e o.through;
    }

pub foot_link : (g : Skeleton) (e : Edge) (v : Point) (i j m n : ℕ) → IsFoot g e v → i ≡ slab_left g v → j ≡ slab_right g v → m ≡ place g i e → n ≡ place g j e → record { one = record { slab = i; place = m + 1 }; other = record { slab = j; place = n + 1 } } ≡ link_at g (foot e v)
foot_link g e v i j m n f a b c d =
    let p : m + 1 ≡ left_count g (foot e v) = ap (λ x. x + 1) (c ∙ ap (λ i. place g i e) a) ∙ sym f.before in
    let q : n + 1 ≡ right_count g (foot e v) = ap (λ x. x + 1) (d ∙ ap (λ i. place g i e) b) ∙ sym f.after in
    let x = a ∙ sym f.left in
    let y = b ∙ sym f.right in
    λ k. record { one = record { slab = x k; place = p k }; other = record { slab = y k; place = q k } }

pub edge_there : (ss : List Span) (s : Span) (k : ℕ) → k < length ss → s ≡ slice_index_or ss k s → Contains (map edge_of ss) (edge_of s)
edge_there ss s k h e = member_in (map edge_of ss) (edge_of s) (map_in edge_of ss s (in_member ss s (k, h, sym e)))

pub reach_there : (vs : List Point) (ss : List Span) (s : Span) (k : ℕ) → k < length ss → s ≡ slice_index_or ss k s → (k < length (table vs ss)) × (reach_in vs s ≡ slice_index_or (table vs ss) k (reach_in vs s))
reach_there vs ss s k h e = (omega (arith, length-map ss (reach_in vs)), ap (reach_in vs) e ∙ sym (get_or-map (reach_in vs) ss k s (reach_in vs s) h))

-- the link of such an edge, from the tables of the slabs on the left and on the right
pub foot_added : (vs : List Point) (ss : List Span) (v : Point) (s : Span) (k i j m n c d : ℕ) (ls rs : List ℕ) → IsPlaneSkeleton (drawn vs ss) → Contains vs v → k < length ss → s ≡ slice_index_or ss k s → passes v (edge_of s) ≡ true → i ≡ slab_left (drawn vs ss) v → j ≡ slab_right (drawn vs ss) v → ls ≡ places_in (table vs ss) i → rs ≡ places_in (table vs ss) j → m ≡ slice_index_or ls k c → n ≡ slice_index_or rs k d → record { one = record { slab = i; place = m + 1 }; other = record { slab = j; place = n + 1 } } ≡ link_at (drawn vs ss) (foot (edge_of s) v)
foot_added vs ss v s k i j m n c d ls rs plane V h e p a b x y q r =
    let g : Skeleton = drawn vs ss in
    let f : IsFoot g (edge_of s) v = foot_is g (edge_of s) v plane V (edge_there ss s k h e) p in
    let t = reach_there vs ss s k h e in
    foot_link g (edge_of s) v i j m n f a b
    (q ∙ place_at (table vs ss) i k c (reach_in vs s) ls x t.0 t.1 ∙ place_is vs ss i s (ap (λ i. spans g i (edge_of s)) a ∙ f.spans_before))
    (r ∙ place_at (table vs ss) j k d (reach_in vs s) rs y t.0 t.1 ∙ place_is vs ss j s (ap (λ i. spans g i (edge_of s)) b ∙ f.spans_after))

-- such a place is small
pub foot_fits : (vs : List Point) (ss : List Span) (s : Span) (k i m c : ℕ) (ps : List ℕ) → k < length ss → s ≡ slice_index_or ss k s → ps ≡ places_in (table vs ss) i → m ≡ slice_index_or ps k c → m ≤ length ps
foot_fits vs ss s k i m c ps h e x q =
    let t = reach_there vs ss s k h e in
    let p : m ≡ place_in (table vs ss) i (reach_in vs s) = q ∙ place_at (table vs ss) i k c (reach_in vs s) ps x t.0 t.1 in
    omega (arith, length_places (table vs ss) i ps x, place_few (table vs ss) i (reach_in vs s))

pub foot_listed : (vs : List Point) (ss : List Span) (k i : ℕ) (ps : List ℕ) → k < length ss → ps ≡ places_in (table vs ss) i → k < length ps
foot_listed vs ss k i ps h x = omega (arith, length_places (table vs ss) i ps x, length-map ss (reach_in vs))
