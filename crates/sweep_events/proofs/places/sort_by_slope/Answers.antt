use Rattle.std.proofs.Common.{rules, List, map, ◌++◌, sym, ap, ◌∙◌, subst, is_lt}
use Rattle.std.specs.List.Sorted.{IsPermutation}
use Rattle.std.proofs.lemmas.Fn.{always_returns_same}
use Rattle.std.proofs.lemmas.List.MinMax.{ranks_by}
use Rattle.std.proofs.lemmas.List.{map-append}
use Rattle.sweep_events.specs.declared.places.PlacedLine.{PlacedLine}
use Rattle.sweep_events.specs.Runs.{placed_line, placed_line_cmp}
use Rattle.sweep_events.proofs.RunSorted.{places_are, slopes_ascend, placed_line_cmp_total}
use Rattle.sweep_events.proofs.places.sort_by_slope.Goals as goal

pub returns-clause-places : goal.returns-clause-places
returns-clause-places c =
    let ps = c.args.pieces.now in
    let xs = c.args.passes.now in
    let ys = c.args.starts.now in
    let vs = c.sort_unstable_by.new.self.items in
    let f = placed_line ps in
    let e = c.in_ok-add_lines-2.ensures ∙ ap (λ (zs : List PlacedLine). zs ++ map f ys) (c.in_ok-add_lines.ensures ∙ ap (λ (zs : List PlacedLine). zs ++ map f xs) c.clear.ensures.items) ∙ sym (map-append f xs ys) in
    places_are ps c.requires.spans xs ys c.requires.passes c.requires.starts vs (subst (λ (us : List PlacedLine). IsPermutation us vs) e c.sort_unstable_by.ensures.permutation)

pub returns-clause-sloped : goal.returns-clause-sloped
returns-clause-sloped c =
    let ps = c.args.pieces.now in
    let xs = c.args.passes.now in
    let ys = c.args.starts.now in
    let vs = c.sort_unstable_by.new.self.items in
    let f = placed_line ps in
    let e = c.in_ok-add_lines-2.ensures ∙ ap (λ (zs : List PlacedLine). zs ++ map f ys) (c.in_ok-add_lines.ensures ∙ ap (λ (zs : List PlacedLine). zs ++ map f xs) c.clear.ensures.items) ∙ sym (map-append f xs ys) in
    slopes_ascend ps c.requires.spans xs ys c.requires.passes c.requires.starts vs (subst (λ (us : List PlacedLine). IsPermutation us vs) e c.sort_unstable_by.ensures.permutation) c.requires.passes_ascend c.requires.starts_ascend c.requires.apart
    (c.sort_unstable_by.ensures.sorted (λ (s t : PlacedLine). is_lt (placed_line_cmp s t)) (ranks_by placed_line_cmp_total (λ (s : PlacedLine). s)) (always_returns_same _ _ _ (λ a r f' k. (ap is_lt (search rules), search rules))))
