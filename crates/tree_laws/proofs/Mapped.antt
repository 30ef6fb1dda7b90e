-- What steps do to the contents of all trees, as a function of the state, and to what a crash may leave.
use Rattle.std.proofs.Common.{◌≡◌, ℕ, [], Option, Some, None, option_map, sym, refl, ap, ◌∙◌}
use Rattle.sled_nodes.proofs.Basics.{none_some}
use Rattle.sled_nodes.specs.declared.node.Data.TheVariants.{Leaf}
use Rattle.sled_store.specs.theory.Facts.{put_name_here, put_name_elsewhere}
use Rattle.tree_laws.specs.Forest.{Tree, Forest, contents}
use Rattle.tree_laws.specs.Contents.{trees_of}
use Rattle.tree_laws.specs.Snapshot.{Snapshot, snapshot_of, nodes_at, HasForest}
use Rattle.tree_laws.specs.theory.Laws.{IsAlone, after_creation, after_drop}
use Rattle.tree_laws.specs.theory.MapLaws.{MapLaw, QuietLaw, ChangedLaw, QuietCrashLaw, WellLaw, PlantsLaw, DropsLaw, NewLaw}
use Rattle.tree_laws.proofs.Empty.{no_trees, no_sizes}
use Rattle.tree_laws.proofs.Roots.{plant_law, drop_law}
use Rattle.tree_laws.proofs.States.{planted_law, dropped_law}
use Rattle.tree_laws.proofs.Fuel.{contents_law}
use Rattle.tree_laws.proofs.Leaving.{left_law}
use Rattle.tree_laws.proofs.Crashing.{adds_unseen}
use Rattle.tree_laws.proofs.Splitting.{own_node}

-- the contents of all trees at a moment
pub map_law : MapLaw
map_law m w is t = contents_law m.state w is.formed is.below t

-- a name has a root at both moments, or at neither, where it has one number at both
roots_like : {m n : Snapshot} {w v : Forest} → HasForest m w → HasForest n v → (t : Tree) → n.numbers t ≡ m.numbers t → {X : Type 0} (x : X) → option_map (λ _. x) (n.state.roots t) ≡ option_map (λ _. x) (m.state.roots t)
roots_like {m} {n} is is' t e {X} x = go (m.state.roots t) (n.state.roots t) refl refl
  where
    go : (a b : Option ℕ) → m.state.roots t ≡ a → n.state.roots t ≡ b → option_map (λ _. x) b ≡ option_map (λ _. x) a
    go None None p q = refl
    go (Some a) (Some b) p q = refl
    go None (Some b) p q = let k = is'.numbered t b q in let r = is.rooted t k.0 (sym e ∙ k.1) in none_some (sym p ∙ r.1)
    go (Some a) None p q = let k = is.numbered t a p in let r = is'.rooted t k.0 (e ∙ k.1) in none_some (sym q ∙ r.1)

-- where no tree's contents and no number change, the maps are the same
pub quiet_law : QuietLaw
quiet_law m w n v is is' numbers same = λ i t. at t i
  where
    at : (t : Tree) → trees_of n.state t ≡ trees_of m.state t
    at t = map_law n v is' t ∙ ap (λ c. option_map (λ _. c) (n.state.roots t)) (same t) ∙ roots_like is is' t (numbers t) (contents (nodes_at m) w t) ∙ sym (map_law m w is t)

-- where one tree's contents change so, its map does
pub changed_law : ChangedLaw
changed_law m w n v t change is is' numbers here others = (
  map_law n v is' t ∙ ap (λ c. option_map (λ _. c) (n.state.roots t)) here ∙ roots_like is is' t (numbers t) (change (contents (nodes_at m) w t)) ∙ twice (m.state.roots t) ∙ sym (ap (option_map change) (map_law m w is t)),
  λ u off. map_law n v is' u ∙ ap (λ c. option_map (λ _. c) (n.state.roots u)) (others u off) ∙ roots_like is is' u (numbers u) (contents (nodes_at m) w u) ∙ sym (map_law m w is u),
)
  where
    twice : (o : Option ℕ) → option_map (λ _. change (contents (nodes_at m) w t)) o ≡ option_map change (option_map (λ _. contents (nodes_at m) w t) o)
    twice None = refl
    twice (Some r) = refl

-- the state at a moment has the shape of a forest
pub well_law : WellLaw
well_law m w is sized = record { forest = w; formed = is.formed; sized = sized }

-- an action that no tree's contents show leaves what a crash may leave as it was, outside every group
pub quiet_crash_law : QuietCrashLaw
quiet_crash_law act a b numbers given w v adds before after is is' sized same = adds_unseen adds before after (well_law _ v is' sized) (quiet_law (snapshot_of a numbers given) w (snapshot_of b numbers given) v is is' (λ t. refl) same)

-- a new tree, over a page that is the call's own
pub plants_law : PlantsLaw
plants_law m w t r version number n is unnamed free own alone =
    let none : m.state.roots t ≡ None = no_root (m.state.roots t) refl in
    let lone : IsAlone (nodes_at m) r n (Leaf []) = record { live = own_node own; lo = alone.lo; hi = alone.hi; next = alone.next; merging = alone.merging; merging_child = alone.merging_child; content = alone.content } in
    let u = plant_law (nodes_at m) m.state.roots w is.formed t r n none own.stray lone in
    let s = planted_law m w t r number n is none free own.stray alone.merging (own_node own) u.0 in
    let new : Snapshot = after_creation m t r number in
    record {
      after = u.0.after;
      steps = s;
      here = u.1;
      others = u.0.others;
      sized = u.0.sized;
      map_here = map_law new u.0.after s.is t ∙ ap (λ c. option_map (λ _. c) (new.state.roots t)) u.1 ∙ ap (option_map (λ _. [])) (put_name_here m.state.roots t (Some r));
      map_others = λ z off. map_law new u.0.after s.is z ∙ ap (λ c. option_map (λ _. c) (new.state.roots z)) (u.0.others z off) ∙ ap (option_map (λ _. contents (nodes_at m) w z)) (put_name_elsewhere m.state.roots t z (Some r) off) ∙ sym (map_law m w is z);
    }
  where
    no_root : (o : Option ℕ) → m.state.roots t ≡ o → o ≡ None
    no_root None e = refl
    no_root (Some k) e = let a = is.numbered t k e in none_some (sym unnamed ∙ a.1)

-- a tree goes, with its number; all of its chains are left to be freed
pub drops_law : DropsLaw
drops_law m w t is =
    let u = drop_law (nodes_at m) m.state.roots w is.formed t in
    let s = dropped_law m w t is u.0 in
    let new : Snapshot = after_drop m t in
    record {
      after = u.0.after;
      steps = s;
      others = u.0.others;
      sized = u.0.sized;
      map_here = map_law new u.0.after s.is t ∙ ap (option_map (λ _. contents (nodes_at new) u.0.after t)) (put_name_here m.state.roots t None);
      map_others = λ z off. map_law new u.0.after s.is z ∙ ap (λ c. option_map (λ _. c) (new.state.roots z)) (u.0.others z off) ∙ ap (option_map (λ _. contents (nodes_at m) w z)) (put_name_elsewhere m.state.roots t z None off) ∙ sym (map_law m w is z);
      left = left_law m w t is u.0 u.1;
    }

-- a store with no page and no root
pub new_law : NewLaw
new_law m pages roots numbers = (
  record {
    pids = λ p g e. none_some (sym (pages p) ∙ e);
    versions = λ p g e. none_some (sym (pages p) ∙ e);
    below = λ p g e. none_some (sym (pages p) ∙ e);
    numbered = λ t r e. none_some (sym (roots t) ∙ e);
    rooted = λ t n e. none_some (sym (numbers t) ∙ e);
    given = λ t n e. none_some (sym (numbers t) ∙ e);
    apart = λ t u n e. none_some (sym (numbers t) ∙ e);
    formed = no_trees _ _ roots;
  },
  no_sizes _,
)
