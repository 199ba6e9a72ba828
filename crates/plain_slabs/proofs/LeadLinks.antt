-- The links between each dart and the one that follows, as a list.
use Rattle.std.proofs.Common.{◌≡◌, ℕ, ◌+◌, ◌<◌, ◌≤◌, List, [], ◌∷◌, ◌++◌, length, get_or, take, Result, Ok, Err, IfOk, ap, ◌∙◌, subst, arith}
use Rattle.std.specs.List.{range_with_len}
use Rattle.std.proofs.lemmas.List.FromFn.{get_or-range_with_len, length-range_with_len}
use Rattle.std.proofs.lemmas.List.Elements.{Contains-get_or}
use Rattle.slab_laws.specs.declared.classes.Link.{Link}
use Rattle.slab_laws.specs.Skeleton.{Skeleton, IsPlaneSkeleton}
use Rattle.slab_laws.specs.Rows.{next_places, lead_places}
use Rattle.slab_faces.proofs.Member.{in_member}
use Rattle.dart_orbits.specs.CycleLinks.{link_at, place_links}
use Rattle.dart_orbits.proofs.LeastTransport.{least_number}
use Rattle.dart_orbits.proofs.LeadPlaces.{nexts_length, next_within, link_out, leads_are}
use Rattle.dart_orbits.proofs.Pushed.{pushed, all_pushed}
use Rattle.plain_slabs.specs.MetNumbers.{AreBelow}

module _ (g : Skeleton) (plane : IsPlaneSkeleton g) (nexts : List ℕ) (e : nexts ≡ next_places g) where
  pub links_below : AreBelow (length nexts) (place_links nexts)
  links_below = λ k d l.
      let w = link_out g plane nexts e (get_or (place_links nexts) k d) (in_member (place_links nexts) _ (Contains-get_or (place_links nexts) k d l)) in
      let n = nexts_length g plane nexts e in
      subst (λ m. (m.one < length nexts) × (m.other < length nexts)) w.2 (omega (arith, w.1), (let b = next_within g plane nexts e w.0 w.1 in omega arith))

  -- what the classes of the numbers give
  pub leads_found : {V E : Type 0} (items : V → List ℕ) (links : List (Link ℕ)) (r : Result V E) → links ≡ place_links nexts → IfOk r (λ v. length (items v) ≡ length nexts) → IfOk r (λ v. (k : ℕ) → k < length nexts → get_or (items v) k 0 ≡ least_number links k) → IfOk r (λ v. items v ≡ lead_places g)
  leads_found items links (Ok v) h n f = leads_are g plane nexts e (items v) n (λ k l. f k l ∙ ap (λ ls. least_number ls k) h)
  leads_found items links (Err x) h n f = tt

-- ---- the list of links
pub link_pushed : (nexts : List ℕ) (i : ℕ) (us vs : List (Link ℕ)) → i < length nexts → us ≡ take i (place_links nexts) → vs ≡ us ++ (link_at nexts i ∷ []) → vs ≡ take (i + 1) (place_links nexts)
link_pushed nexts i us vs l a b =
    let n = length-range_with_len 0 (length nexts) in
    let k : get_or (range_with_len 0 (length nexts)) i 0 ≡ 0 + i = get_or-range_with_len 0 (length nexts) i 0 l in
    let m : i ≡ get_or (range_with_len 0 (length nexts)) i 0 = omega arith in
    pushed (link_at nexts) (range_with_len 0 (length nexts)) i 0 (link_at nexts i) us vs (omega arith) (ap (link_at nexts) m) a b

pub links_done : (nexts : List ℕ) (i : ℕ) (us : List (Link ℕ)) → length nexts ≤ i → us ≡ take i (place_links nexts) → us ≡ place_links nexts
links_done nexts i us l a = all_pushed (link_at nexts) (range_with_len 0 (length nexts)) i us (let n = length-range_with_len 0 (length nexts) in omega arith) a
