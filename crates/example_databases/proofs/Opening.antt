-- What the maps of a database are once a tree was opened.
use Rattle.std.proofs.Common.{◌≡◌, Bool, true, false, cond, Option, Some, None, option_map, sym, refl, ap, ◌∙◌}
use Rattle.std.proofs.Math.Path.{fun_ext}
use Rattle.std.specs.Str.{bytes_eq}
use Rattle.sled_nodes.specs.Order.{Key}
use Rattle.sled_store.specs.theory.Facts.{same_name}
use Rattle.sled_store.specs.Store.{Store}
use Rattle.sled_model.specs.Maps.{Merge}
use Rattle.sled_model.specs.State.{State, NamedTree, maps_of}
use Rattle.sled_model.specs.Whole.{state_opened}
use Rattle.sled_model.specs.declared.call.Whole.TheVariants.{OpenTree}
use Rattle.sled_model.specs.declared.reply.Reply.TheVariants as told
use Rattle.sled_model.specs.declared.tree.Tree.{Tree}
use Rattle.sled_model.proofs.Shapes.{new_tree}
use Rattle.sled.specs.Direct.{WholeDecided}
use Rattle.sled.specs.Opens.{or_empty, with_tree}
use Rattle.sled.specs.Values.{DbValue, db_state}
use Rattle.example_parts.specs.Reads.{maps_now}

opened_maps : (name : Key) (o : Option NamedTree) (s : State) → s.trees name ≡ o → maps_of (state_opened o s name) ≡ with_tree name (maps_of s)
opened_maps name (Some t) s there = fun_ext (λ u. go u (bytes_eq u name) refl)
  where
    go : (u : Key) (b : Bool) → bytes_eq u name ≡ b → maps_of s u ≡ cond b (or_empty (maps_of s u)) (maps_of s u)
    go u true q = let f : maps_of s u ≡ Some t.map = ap (maps_of s) (same_name u name q) ∙ ap (option_map (λ (z : NamedTree). z.map)) there in f ∙ sym (ap or_empty f)
    go u false q = refl
opened_maps name None s none = fun_ext (λ u. go u (bytes_eq u name) refl)
  where
    go : (u : Key) (b : Bool) → bytes_eq u name ≡ b → option_map (λ (z : NamedTree). z.map) (cond b (Some (new_tree s)) (s.trees u)) ≡ cond b (or_empty (maps_of s u)) (maps_of s u)
    go u true q = sym (ap or_empty (ap (maps_of s) (same_name u name q) ∙ ap (option_map (λ (z : NamedTree). z.map)) none))
    go u false q = refl

pub opened_now : {P M : Type 0} (store : P → Store) (meant : M → Merge) (old new : DbValue P M) (name : Key) (tree : Tree) → WholeDecided store meant old (OpenTree name) (told.Tree tree) new → maps_now store meant new ≡ with_tree name (maps_now store meant old)
opened_now store meant old new name tree w = ap maps_of (w.decides (λ n. None) 0 0).is ∙ opened_maps name ((db_state store meant old).trees name) (db_state store meant old) refl
