-- What a load in batches comes to, now and after a crash.
use Rattle.std.proofs.Common.{◌≡◌, ◌⊎◌, ℕ, ◌+◌, ◌*◌, min, length, take, drop, T, [], ◌∷◌, ◌++◌, append-nil, None, option_map, sym, refl, ap, ◌∙◌, subst, inl, inr, arith}
use Rattle.std.proofs.lemmas.List.{take-append-drop}
use Rattle.sled_nodes.specs.Order.{Key}
use Rattle.sled_nodes.specs.declared.error.Error.{Error}
use Rattle.sled_store.specs.State.{State as PageState}
use Rattle.sled_store.specs.Store.{Store}
use Rattle.sled_store.specs.Crash.{IsCrashState}
use Rattle.sled_model.specs.Maps.{Map, Maps, Merge}
use Rattle.sled_model.specs.Groups.{writes_on}
use Rattle.sled_model.specs.State.{NamedTree}
use Rattle.sled_model.specs.declared.tree.Tree.{Tree}
use Rattle.tree_laws.specs.Contents.{trees_of}
use Rattle.tree_laws.specs.Crashes.{AddsCrashStates}
use Rattle.tree_laws.proofs.Crashing.{extends_same}
use Rattle.sled.specs.Groups.{GroupDecided, GroupRefused}
use Rattle.sled.specs.Sound.{MapsAscend}
use Rattle.sled.specs.Values.{DbValue, db_state}
use Rattle.sled.proofs.Written.{after_both}
use Rattle.example_parts.specs.Reads.{maps_now}
use Rattle.example_parts.proofs.Added.{left_by}
use Rattle.example_parts.proofs.Maps.{first_there}
use Rattle.example_databases.specs.Batches.{batch_size, with_pairs, LeavesBatches, written, LoadsBatch, StopsBatch}
use Rattle.example_databases.proofs.Loading.{with_none, with_more, batch_puts, next_taken, next_left}

pub none_left : (rest : Map) → length rest ≡ 0 → rest ≡ []
none_left [] e = refl
none_left (p ∷ ps) e = absurd (omega (arith, e))

module _ {P M : Type 0} (store : P → Store) (meant : M → Merge) where
  -- ---- one batch

  module _ (old new : DbValue P M) where
    pub batch_loaded : (tree : Tree) (pairs : Map) → MapsAscend (maps_now store meant old) → MapsAscend (maps_now store meant new) → GroupDecided store meant old ((tree, written pairs []) ∷ []) new → LoadsBatch store meant old tree.name pairs new
    batch_loaded tree pairs before after d =
        let made = d.decides (λ n. None) 0 in
        let n = first_there (db_state store meant old) tree [] made.free in
        record {
          maps = batch_puts tree pairs (db_state store meant old) (db_state store meant new) n.0 n.1 (made.is ∙ after_both (writes_on tree (written pairs [])) [] (db_state store meant old))
              (subst T (sym (before.is tree.name n.0.map (ap (option_map (λ (t : NamedTree). t.map)) n.1))) tt) (λ name map there. subst T (sym (after.is name map there)) tt);
          adds = subst (λ l. AddsCrashStates l (store old.pages) (store new.pages)) made.added d.leaves.extends;
        }

    pub batch_stops : (tree : Tree) (pairs : Map) (e : Error) → GroupRefused store meant old ((tree, written pairs []) ∷ []) e new → StopsBatch store old new
    batch_stops tree pairs e r = record { adds = subst (λ l. AddsCrashStates l (store old.pages) (store new.pages)) (r.refuses (λ n. None) 0).added r.leaves.extends }

    pub nothing_written : new ≡ old → StopsBatch store old new
    nothing_written same = record { adds = subst (λ (d : DbValue P M). AddsCrashStates [] (store old.pages) (store d.pages)) (sym same) (extends_same (store old.pages)) }

  -- ---- batch after batch

  module _ (old : DbValue P M) (tree : Key) (pairs : Map) where
    -- what a crash may leave
    abbrev IsLeft : Maps → Type 0
    IsLeft maps = ((earlier : PageState) × IsCrashState (store old.pages) earlier × (maps ≡ trees_of earlier)) ⊎ ((batches : ℕ) × (maps ≡ with_pairs tree (take (batches * batch_size) pairs) (maps_now store meant old)))

    -- so many batches were loaded, and these pairs are left
    pub record Loaded (d : DbValue P M) (rest : Map) : Type 0 where
      pub batches : ℕ
      pub rest_is : rest ≡ drop (batches * batch_size) pairs
      pub maps : maps_now store meant d ≡ with_pairs tree (take (batches * batch_size) pairs) (maps_now store meant old)
      pub crash : LeavesBatches (store old.pages) (maps_now store meant old) tree pairs (store d.pages)

    pub loaded_none : Loaded old pairs
    loaded_none = record { batches = 0; rest_is = refl; maps = sym (with_none tree (maps_now store meant old)); crash = record { is = λ state left. inl (state, left, refl) } }

    one_more : (n : ℕ) → n * batch_size + batch_size ≡ (n + 1) * batch_size
    one_more n = omega arith

    module _ (mid new : DbValue P M) (rest : Map) (l : Loaded mid rest) where
      pub loaded_more : LoadsBatch store meant mid tree (take (min batch_size (length rest)) rest) new → Loaded new (drop (min batch_size (length rest)) rest)
      loaded_more b = record {
        batches = l.batches + 1;
        rest_is = next_left batch_size (l.batches * batch_size) pairs rest l.rest_is ∙ ap (λ n. drop n pairs) (one_more l.batches);
        maps = now_is;
        crash = record {
          is = λ state left. elim (left_by (maps_now store meant new ∷ []) (store mid.pages) (store new.pages) state b.adds left) [
            | inl before ↦ subst IsLeft (sym before.2) (l.crash.is before.0 before.1)
            | inr (inl same) ↦ inr (l.batches + 1, same ∙ now_is)
            | inr (inr none) ↦ absurd none
          ];
        };
      }
        where
          now_is : maps_now store meant new ≡ with_pairs tree (take ((l.batches + 1) * batch_size) pairs) (maps_now store meant old)
          now_is =
              b.maps ∙ ap (with_pairs tree (take (min batch_size (length rest)) rest)) l.maps
              ∙ with_more tree (take (l.batches * batch_size) pairs) (take (min batch_size (length rest)) rest) (maps_now store meant old)
              ∙ ap (λ ps. with_pairs tree ps (maps_now store meant old)) (next_taken batch_size (l.batches * batch_size) pairs rest l.rest_is ∙ ap (λ n. take n pairs) (one_more l.batches))

      pub loaded_stops : StopsBatch store mid new → LeavesBatches (store old.pages) (maps_now store meant old) tree pairs (store new.pages)
      loaded_stops s = record {
        is = λ state left. elim (left_by [] (store mid.pages) (store new.pages) state s.adds left) [
          | inl before ↦ subst IsLeft (sym before.2) (l.crash.is before.0 before.1)
          | inr none ↦ absurd none
        ];
      }

    pub loaded_all : (d : DbValue P M) (rest : Map) → rest ≡ [] → Loaded d rest → maps_now store meant d ≡ with_pairs tree pairs (maps_now store meant old)
    loaded_all d rest none l =
        let all : take (l.batches * batch_size) pairs ≡ pairs = sym (append-nil _) ∙ ap (λ ps. take (l.batches * batch_size) pairs ++ ps) (sym none ∙ l.rest_is) ∙ take-append-drop (l.batches * batch_size) pairs in
        l.maps ∙ ap (λ ps. with_pairs tree ps (maps_now store meant old)) all
