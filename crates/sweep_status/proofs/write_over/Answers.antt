use Rattle.std.proofs.Common.{◌≡◌, ℕ, ◌+◌, ◌-◌, List, ◌++◌, length, take, drop, ap, ap₂, ◌∙◌, arith}
use Rattle.std.proofs.lemmas.List.{drop-drop}
use Rattle.sweep_status.proofs.write_over.Goals as goal

pub returns : goal.returns
returns c =
    let xs = c.args.status.now in
    let low = c.args.low in
    let n = length c.args.run.now in
    let e : low + (low + n - low) ≡ low + n = omega arith in
    ap₂ (λ (ys zs : List ℕ). take low xs ++ (ys ++ zs)) c.copy_from_slice.ensures.after (drop-drop (low + n - low) low xs ∙ ap (λ k. drop k xs) e)
