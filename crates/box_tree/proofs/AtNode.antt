-- What is known of a tree once its link is a node.
use Rattle.std.proofs.Common.{◌≡◌, ◌∷◌, ◌++◌, Box, sym, ap, ◌∙◌, subst, suc, max, ◌+◌, ◌≤◌}
use Rattle.std.specs.declared.alloc.Global.{Global}
use Rattle.box_tree.specs.declared.tree.Link.{Link}
use Rattle.box_tree.specs.declared.tree.Link.TheVariants.{Node}
use Rattle.box_tree.specs.declared.tree.Node.{Node as OneNode}
use Rattle.box_tree.specs.Entries.{AllWithin}
use Rattle.box_tree.specs.Grown.{Grown}
use Rattle.box_tree.specs.Nodes.{grown, entries, height, IsCovered, IsLow}

pub record AtNode (g : Grown) (n : OneNode) : Type 0 where
  pub is : g.entries ≡ n.entry ∷ (n.low.entries ++ n.high.entries)
  pub high : g.height ≡ suc (max n.low.height n.high.height)
  pub within : AllWithin n.cover g.entries
  pub low : g.height + n.fork ≤ 96

pub at_node : {l : Link} {g : Grown} {n : Box OneNode Global} → grown l ≡ g → IsCovered l × IsLow l → l ≡ Node n → AtNode g n.value
at_node {l} {g} {n} view_is holds is =
    let e : g.entries ≡ n.value.entry ∷ (n.value.low.entries ++ n.value.high.entries) = ap (λ x. x.entries) (sym view_is) ∙ ap entries is in
    let h : g.height ≡ suc (max n.value.low.height n.value.high.height) = ap (λ x. x.height) (sym view_is) ∙ ap height is in
    record { is = e; high = h; within = rw e (subst IsCovered is holds.0); low = rw h (subst IsLow is holds.1) }
