-- The writes of a group that change something, as they are found before the group is made.
use Rattle.std.proofs.Common.{◌≡◌, ◌≢◌, ℕ, suc, ◌+◌, ◌<◌, Bool, true, false, cond, List, [], ◌∷◌, ◌++◌, length, get_or, take, drop, append_assoc, append-nil, add-one, take-suc, drop-cons, Option, Some, None, is_some, refl, sym, ap, subst, ◌∙◌}
use Rattle.std.proofs.lemmas.List.{take-append-drop}
use Rattle.std.specs.BTreeMap.{is_at}
use Rattle.std.specs.Cmp.Lexicographic.{slice_cmp}
use Rattle.std.specs.FinMap.Entries.{find}
use Rattle.std.specs.Map.{lookup}
use Rattle.std.specs.Ordering.{nat_cmp, eq_by_cmp}
use Rattle.sled_nodes.proofs.Basics.{some_is}
use Rattle.sled_nodes.specs.Order.{Key, key_cmp}
use Rattle.sled_batch.specs.Batch.{Writes, Rises}
use Rattle.sled_store.specs.Store.{Store}
use Rattle.sled_model.specs.Maps.{Merge}
use Rattle.sled_model.specs.State.{State, NamedTree}
use Rattle.sled_model.specs.Groups.{Write, writes_on, writes_of, after_writes}
use Rattle.sled_model.specs.Refusal.{is_number, must_refuse_of, trees_of_batches}
use Rattle.sled_model.specs.declared.tree.Tree.{Tree}
use Rattle.sled_model.proofs.Shapes.{after_write, same_value}
use Rattle.tree_groups.specs.declared.key_write.KeyWrite.{KeyWrite}
use Rattle.tree_laws.specs.Snapshot.{Snapshot}
use Rattle.sled.specs.Values.{DbValue, numbers_of, db_state}
use Rattle.sled.specs.Sound.{IsDb}
use Rattle.sled.specs.Groups.{jobs_of_write, jobs_of_writes, Finds}
use Rattle.sled.specs.theory.Groups.{FindsMore, value_in, Stands, stands_over}
use Rattle.sled.proofs.Beginning.{finds_both, finds_none}
use Rattle.sled.proofs.Trees.{current, numbered}
use Rattle.sled.proofs.Batching.{tested_parts, tested_last, tested_among, tested_upto}
use Rattle.sled.proofs.Written.{written_or, writes_keep, writes_of_both, made_here, made_elsewhere, still_there, job_of, brings}

-- ---- what a map in memory finds

pub found_by : (key : Key) (es batch : Writes) (found : Option (Option Key)) → found ≡ lookup (is_at (slice_cmp nat_cmp key)) es → es ≡ batch → found ≡ find key_cmp key batch
unfolding key_cmp
found_by key es batch found e same = e ∙ go es ∙ ap (find key_cmp key) same
  where
    go : (es : Writes) → lookup (is_at (slice_cmp nat_cmp key)) es ≡ find key_cmp key es
    go [] = refl
    go (w ∷ es) = ap (λ o. cond (eq_by_cmp key_cmp key w.0) (Some w.1) o) (go es)

-- ---- lists up to a place

upto_next : {A : Type 0} (xs : List A) (i : ℕ) (x : A) → i < length xs → x ≡ get_or xs i x → take (i + 1) xs ≡ take i xs ++ x ∷ []
upto_next xs i x h e = rw add-one (take-suc xs i x h ∙ ap (λ z. take i xs ++ z ∷ []) (sym e))

pub parted : {A : Type 0} (xs : List A) (i : ℕ) (x : A) → i < length xs → x ≡ get_or xs i x → xs ≡ take i xs ++ x ∷ drop (i + 1) xs
parted xs i x h e = rw add-one (sym (take-append-drop i xs) ∙ ap (λ l. take i xs ++ l) (drop-cons xs i x h ∙ ap (λ z. z ∷ drop (suc i) xs) (sym e)))

-- ---- whether a value stands

module _ {P M : Type 0} (store : P → Store) (meant : M → Merge) (d : DbValue P M) (db : IsDb store d) where
  -- trees that pass the tests have their numbers, so that one number is one name
  number_is : (t : Tree) → must_refuse_of (db_state store meant d) (t ∷ []) ≡ None → numbers_of d.trees t.name ≡ Some t.number
  number_is t tested = numbered t.number (numbers_of d.trees t.name) _ _ (current (db_state store meant d) t tested)

  same_tree : (t u : Tree) → must_refuse_of (db_state store meant d) (t ∷ []) ≡ None → must_refuse_of (db_state store meant d) (u ∷ []) ≡ None → t.number ≡ u.number → t.name ≡ u.name
  same_tree t u p q e = db.is.apart t.name u.name u.number (number_is t p ∙ ap Some e) (number_is u q)

  other_tree : (t u : Tree) → must_refuse_of (db_state store meant d) (t ∷ []) ≡ None → must_refuse_of (db_state store meant d) (u ∷ []) ≡ None → t.number ≢ u.number → u.name ≢ t.name
  other_tree t u p q off e = off (some_is (sym (number_is t p) ∙ ap (numbers_of d.trees) (sym e) ∙ number_is u q))

there : (s : State) (t : Tree) → must_refuse_of s (t ∷ []) ≡ None → is_some (s.trees t.name) ≡ true
there s t tested = go (s.trees t.name) (current s t tested)
  where
    go : (o : Option NamedTree) → is_number t.number o ≡ true → is_some o ≡ true
    go None e = cc
    go (Some x) e = refl

over_is : (found : Option (Option Key)) (before value : Option Key) (stands : Bool) → stands ≡ same_value before value → stands_over found value stands ≡ same_value (written_or found before) value
over_is None before value stands e = e
over_is (Some w) before value stands e = refl

module _ {P M : Type 0} (store : P → Store) (meant : M → Merge) (d : DbValue P M) (tree : Tree) (key : Key) (value : Option Key) where
  module _ (db : IsDb store d) (before : List (Tree × Writes)) (tested : must_refuse_of (db_state store meant d) (trees_of_batches before ++ tree ∷ []) ≡ None) (i : ℕ) (b : Tree × Writes) (h : i < length before) (e : b ≡ get_or before i b) where
    own_tested : must_refuse_of (db_state store meant d) (tree ∷ []) ≡ None
    own_tested = tested_last (db_state store meant d) before tree tested

    its_tested : must_refuse_of (db_state store meant d) (b.0 ∷ []) ≡ None
    its_tested = tested_among (db_state store meant d) (take i before) b (drop (i + 1) before)
        (ap (λ bs. must_refuse_of (db_state store meant d) (trees_of_batches bs)) (sym (parted before i b h e)) ∙ (tested_parts (db_state store meant d) (trees_of_batches before) (tree ∷ []) tested).0)

    -- once another batch on the tree is made
    pub stands_on : (stands new : Bool) → Rises b.1 → b.0.number ≡ tree.number → Stands (after_writes (writes_of (take i before)) (db_state store meant d)) tree key value stands → new ≡ stands_over (find key_cmp key b.1) value stands
        → Stands (after_writes (writes_of (take (i + 1) before)) (db_state store meant d)) tree key value new
    stands_on stands new rises same s is = record {
      is =
          is ∙ over_is (find key_cmp key b.1) _ value stands s.is
          ∙ ap (λ o. same_value o value) (sym (made_here (take i before) b (db_state store meant d) tree key rises (there (db_state store meant d) tree own_tested) (same_tree store meant d db b.0 tree its_tested own_tested same)))
          ∙ ap (λ bs. same_value (value_in ((after_writes (writes_of bs) (db_state store meant d)).trees tree.name) key) value) (sym (upto_next before i b h e));
    }

    -- or one on another tree
    pub stands_still : (stands new : Bool) → b.0.number ≢ tree.number → Stands (after_writes (writes_of (take i before)) (db_state store meant d)) tree key value stands → new ≡ stands
        → Stands (after_writes (writes_of (take (i + 1) before)) (db_state store meant d)) tree key value new
    stands_still stands new other s is = record {
      is =
          is ∙ s.is
          ∙ ap (λ o. same_value o value) (sym (made_elsewhere (take i before) b (db_state store meant d) tree key (other_tree store meant d db b.0 tree its_tested own_tested other)))
          ∙ ap (λ bs. same_value (value_in ((after_writes (writes_of bs) (db_state store meant d)).trees tree.name) key) value) (sym (upto_next before i b h e));
    }

-- ---- the writes of a batch

pub jobs_of_both : (vs ws : List Write) (s : State) → jobs_of_writes (vs ++ ws) s ≡ jobs_of_writes vs s ++ jobs_of_writes ws (after_writes vs s)
jobs_of_both [] ws s = refl
jobs_of_both (v ∷ vs) ws s = ap (λ js. jobs_of_write (s.trees v.tree.name) v ++ js) (jobs_of_both vs ws (after_write v s)) ∙ sym (append_assoc (jobs_of_write (s.trees v.tree.name) v) (jobs_of_writes vs (after_write v s)) (jobs_of_writes ws (after_writes vs (after_write v s))))

writes_on_both : (tree : Tree) (done more : Writes) → writes_on tree (done ++ more) ≡ writes_on tree done ++ writes_on tree more
writes_on_both tree [] more = refl
writes_on_both tree (w ∷ done) more = ap (λ ws. record { tree = tree; key = w.0; value = w.1 } ∷ ws) (writes_on_both tree done more)

-- The calls of the first writes of a batch are added, and those of the others are still to come
pub record Added (m : Snapshot) (tree : Tree) (all : Writes) (s : State) (first writes : List KeyWrite) (left : Writes) : Type 0 where
  pub done : Writes
  pub parts : all ≡ done ++ left
  pub adds : FindsMore m (jobs_of_writes (writes_on tree done) s) first writes

pub added_first : (m : Snapshot) (tree : Tree) (all left : Writes) (s : State) (first : List KeyWrite) → left ≡ all → Added m tree all s first first left
added_first m tree all left s first e = record { done = []; parts = sym e; adds = record { more = []; is = sym (append-nil first); finds = finds_none m } }

-- a write of the tree
abbrev write_on : Tree → Key → Option Key → Write
write_on tree key value = record { tree = tree; key = key; value = value }

-- one write more
added_more : (m : Snapshot) (tree : Tree) (all : Writes) (s : State) (first writes : List KeyWrite) (key : Key) (value : Option Key) (more : Writes) (new : List KeyWrite) → Rises all → is_some (s.trees tree.name) ≡ true
    → Added m tree all s first writes ((key, value) ∷ more) → FindsMore m (jobs_of_write (s.trees tree.name) (write_on tree key value)) writes new → Added m tree all s first new more
added_more m tree all s first writes key value more new rises has a adds = record {
  done = a.done ++ (key, value) ∷ [];
  parts = a.parts ∙ sym (append_assoc a.done ((key, value) ∷ []) more);
  adds = record {
    more = a.adds.more ++ adds.more;
    is = adds.is ∙ ap (λ fs. fs ++ adds.more) a.adds.is ∙ append_assoc first a.adds.more adds.more;
    finds = subst (λ js. Finds m js (a.adds.more ++ adds.more)) jobs_now (finds_both m (jobs_of_writes (writes_on tree a.done) s) (jobs_of_write (s.trees tree.name) (write_on tree key value)) a.adds.more adds.more a.adds.finds adds.finds);
  };
}
  where
    jobs : jobs_of_write (s.trees tree.name) (write_on tree key value) ≡ jobs_of_writes (write_on tree key value ∷ []) (after_writes (writes_on tree a.done) s)
    jobs =
        brings (s.trees tree.name) (write_on tree key value) has
        ∙ ap (λ o. cond (same_value o value) [] (job_of (write_on tree key value) ∷ [])) (sym (still_there tree a.done key value more s (subst Rises a.parts rises) has))
        ∙ sym (brings ((after_writes (writes_on tree a.done) s).trees tree.name) (write_on tree key value) (writes_keep (writes_on tree a.done) s tree.name ∙ has))
        ∙ sym (append-nil (jobs_of_write ((after_writes (writes_on tree a.done) s).trees tree.name) (write_on tree key value)))

    jobs_now : jobs_of_writes (writes_on tree a.done) s ++ jobs_of_write (s.trees tree.name) (write_on tree key value) ≡ jobs_of_writes (writes_on tree (a.done ++ (key, value) ∷ [])) s
    jobs_now =
        ap (λ js. jobs_of_writes (writes_on tree a.done) s ++ js) jobs
        ∙ sym (jobs_of_both (writes_on tree a.done) (write_on tree key value ∷ []) s)
        ∙ ap (λ ws. jobs_of_writes ws s) (sym (writes_on_both tree a.done ((key, value) ∷ [])))

pub added_on : (m : Snapshot) (tree : Tree) (all : Writes) (s : State) (first writes : List KeyWrite) (left : Writes) (key : Key) (value : Option Key) (more : Writes) (new : List KeyWrite) → Rises all → is_some (s.trees tree.name) ≡ true
    → Added m tree all s first writes left → left ≡ (key, value) ∷ more → FindsMore m (jobs_of_write (s.trees tree.name) (write_on tree key value)) writes new → Added m tree all s first new more
added_on m tree all s first writes left key value more new rises has a e adds = added_more m tree all s first writes key value more new rises has (subst (λ l. Added m tree all s first writes l) e a) adds

-- a write that brings no event, and one that brings one
module _ (m : Snapshot) (o : Option NamedTree) (w : Write) (has : is_some o ≡ true) (stands : Bool) (is : stands ≡ same_value (value_in o w.key) w.value) (writes : List KeyWrite) where
  jobs_are : jobs_of_write o w ≡ cond stands [] (job_of w ∷ [])
  jobs_are = brings o w has ∙ ap (λ b. cond b [] (job_of w ∷ [])) (sym is)

  pub adds_none : stands ≡ true → FindsMore m (jobs_of_write o w) writes writes
  adds_none on = record { more = []; is = sym (append-nil writes); finds = subst (λ js. Finds m js []) (sym (jobs_are ∙ ap (λ b. cond b [] (job_of w ∷ [])) on)) (finds_none m) }

  pub adds_one : stands ≡ false → (one : KeyWrite) (new : List KeyWrite) → Finds m (job_of w ∷ []) (one ∷ []) → new ≡ writes ++ one ∷ [] → FindsMore m (jobs_of_write o w) writes new
  adds_one off one new found e = record { more = one ∷ []; is = e; finds = subst (λ js. Finds m js (one ∷ [])) (sym (jobs_are ∙ ap (λ b. cond b [] (job_of w ∷ [])) off)) found }

-- ---- and of all batches

-- a tree that passes the tests is there also after writes
pub there_after : (s : State) (before : List (Tree × Writes)) (tree : Tree) → must_refuse_of s (trees_of_batches before ++ tree ∷ []) ≡ None → is_some ((after_writes (writes_of before) s).trees tree.name) ≡ true
there_after s before tree tested = writes_keep (writes_of before) s tree.name ∙ there s tree (tested_last s before tree tested)

-- the calls of the batches up to one are found, and then those of it
pub found_on : (m : Snapshot) (s : State) (all : List (Tree × Writes)) (i : ℕ) (b : Tree × Writes) (writes new : List KeyWrite) → i < length all → b ≡ get_or all i b
    → Finds m (jobs_of_writes (writes_of (take i all)) s) writes → FindsMore m (jobs_of_writes (writes_on b.0 b.1) (after_writes (writes_of (take i all)) s)) writes new
    → Finds m (jobs_of_writes (writes_of (take (i + 1) all)) s) new
found_on m s all i b writes new h e so adds =
    subst (Finds m (jobs_of_writes (writes_of (take (i + 1) all)) s)) (sym adds.is)
    (subst (λ js. Finds m js (writes ++ adds.more)) jobs (finds_both m (jobs_of_writes (writes_of (take i all)) s) (jobs_of_writes (writes_on b.0 b.1) (after_writes (writes_of (take i all)) s)) writes adds.more so adds.finds))
  where
    jobs : jobs_of_writes (writes_of (take i all)) s ++ jobs_of_writes (writes_on b.0 b.1) (after_writes (writes_of (take i all)) s) ≡ jobs_of_writes (writes_of (take (i + 1) all)) s
    jobs =
        sym (jobs_of_both (writes_of (take i all)) (writes_on b.0 b.1) s)
        ∙ ap (λ ws. jobs_of_writes ws s) (ap (λ ws. writes_of (take i all) ++ ws) (sym (append-nil (writes_on b.0 b.1))) ∙ sym (writes_of_both (take i all) (b ∷ [])))
        ∙ ap (λ bs. jobs_of_writes (writes_of bs) s) (sym (upto_next all i b h e))

-- the tests of the batches up to one, with it
pub tested_to : (s : State) (all : List (Tree × Writes)) (i : ℕ) (b : Tree × Writes) → i < length all → b ≡ get_or all i b → must_refuse_of s (trees_of_batches all) ≡ None → must_refuse_of s (trees_of_batches (take i all) ++ b.0 ∷ []) ≡ None
tested_to s all i b h e tested = tested_upto s (take i all) b (drop (i + 1) all) (ap (λ bs. must_refuse_of s (trees_of_batches bs)) (sym (parted all i b h e)) ∙ tested)
