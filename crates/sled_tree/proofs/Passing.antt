-- Steps on clean paths.
use Rattle.std.proofs.Common.{◌≡◌, ℕ, length, ◌+◌, ◌<◌, ◌≤◌, ◌↔◌, IsTrue, true, false, Bool, ◌||◌, List, [], ◌∷◌, Option, Some, None, Err, option_map, sym, refl, ap, ◌∙◌, subst, inl, inr, arith}
use Rattle.std.specs.List.{list_any}
use Rattle.std.specs.declared.ops.Bound.{Bound}
use Rattle.std.proofs.lemmas.List.Folds.{list_any-append}
use Rattle.sled_nodes.proofs.Basics.{none_some, some_is, true_false, untrue}
use Rattle.sled_nodes.specs.Order.{Key}
use Rattle.sled_nodes.specs.Among.{IsLast, IsPointer, IsPointerFor}
use Rattle.sled_nodes.specs.Node.{count, pointers, value_at}
use Rattle.sled_store.specs.State.{State, Nodes, nodes_of}
use Rattle.sled_store.specs.Store.{Store, now, view_of, Changes}
use Rattle.sled_nodes.specs.declared.node.Node.{Node}
use Rattle.sled_nodes.specs.declared.node.Data.TheVariants.{Leaf, Index}
use Rattle.sled_store.specs.declared.page.Page.{Page}
use Rattle.sled_store.specs.declared.page.View.{View}
use Rattle.sled_model.specs.Maps.{Merge as Operator}
use Rattle.sled_model.specs.Answer.{key_of}
use Rattle.sled_model.specs.declared.decision.Effect.TheVariants.{Nothing}
use Rattle.tree_laws.specs.Snapshot.{LiesUnder}
use Rattle.tree_laws.specs.Paths.{CleanFrom, NeedsNoRepair}
use Rattle.tree_laws.specs.theory.PathLaws.{CleanStep}
use Rattle.tree_laws.proofs.Looking.{clean_step_law}
use Rattle.sled_tree.specs.Change.{decision_at, reply_at}
use Rattle.sled_tree.specs.theory.Change.{IsLeaf, IsIndex}
use Rattle.sled_tree.specs.Follows.{EndsWithin}
use Rattle.sled_tree.specs.Passing.{IsUnchanged, IsAheadOf, IsOnPath, StepsOnPath}
use Rattle.sled_tree.specs.theory.Stages.{IsElsewhere}
use Rattle.sled_tree.specs.theory.Passing.{AdvancesOnPath, AdvancesFromPage}
use Rattle.sled_tree.specs.declared.flight.InFlight.{InFlight}
use Rattle.sled_tree.specs.Course.{Course, course_of}
use Rattle.sled_tree.specs.declared.flight.Sequel.{Sequel}
use Rattle.sled_tree.specs.declared.flight.Sequel.TheVariants as sequel
use Rattle.tree_laws.specs.declared.flight.Stage.{Stage}
use Rattle.tree_laws.specs.declared.flight.Stage.TheVariants as stage
use Rattle.tree_laws.specs.declared.flight.Walk.{Walk}
use Rattle.sled_tree.specs.declared.flight.Went.TheVariants as went
use Rattle.tree_laws.specs.Stages.{by_pointer}
use Rattle.tree_laws.specs.declared.flight.Reached.{Reached}
use Rattle.tree_laws.specs.declared.flight.Reached.TheVariants as reached
use Rattle.tree_laws.proofs.Viewed.{viewed, gone}
use Rattle.sled_tree.proofs.Replying.{links_law}
use Rattle.sled_tree.proofs.Arriving.{leaf_is, index_is}

-- a stage that no clean path leads to
pub passes_never : (j : Course) (old new : State) (a : Stage) (n : Sequel) → ((path : List ℕ) → IsOnPath old j a path → ⊥) → AdvancesOnPath j old a n new
passes_never j old new a n off = record { is = λ path k. absurd (off path k) }

-- no clean path leads to a stage of a repair
pub passes_elsewhere : (j : Course) (old new : State) (a : Stage) (n : Sequel) → IsElsewhere a → AdvancesOnPath j old a n new
passes_elsewhere j old new a n elsewhere = passes_never j old new a n (off a elsewhere)
  where
    off : (a : Stage) → IsElsewhere a → (path : List ℕ) → IsOnPath old j a path → ⊥
    off stage.Root elsewhere path k = elsewhere
    off (stage.Walk a) elsewhere path k = elsewhere
    off (stage.Act v) elsewhere path k = elsewhere
    off (stage.Give a) elsewhere path k = elsewhere
    off other elsewhere path k = k

-- the page of the path is there
live_at : (s : State) (aim : Bound Key) (p : ℕ) (first : Bool) (path : List ℕ) → CleanFrom (nodes_of s) aim p first path → s.pages p ≡ None → ⊥
live_at s aim p first [] k gone = k
live_at s aim p first (q ∷ rest) (e, n, passed, more) gone = none_some (ap (option_map (λ (g : Page). g.node)) (sym gone) ∙ passed.live)

-- what is ahead of a walk is clean from its page on
clean_ahead : (nodes : Nodes) (aim : Bound Key) (p : ℕ) (by : Reached) (path : List ℕ) → IsAheadOf nodes aim p by path → (first : Bool) × CleanFrom nodes aim p first path
clean_ahead nodes aim p reached.Root path k = (true, k)
clean_ahead nodes aim p (reached.FirstPointer parent) path k = (true, k)
clean_ahead nodes aim p (reached.LaterPointer parent) path k = (false, k)
clean_ahead nodes aim p (reached.Next parent) path k = absurd k

module _ (j : Course) (s : State) where
  -- the tree has no root,
  pub no_root : (name : Key) (found : Option ℕ) (n : Sequel) → name ≡ j.tree.name → found ≡ s.roots name → found ≡ None → AdvancesOnPath j s stage.Root n s
  no_root name found n called is_found none = passes_never j s s stage.Root n (λ path k. none_some (sym none ∙ is_found ∙ ap s.roots called ∙ k.is_root))

  -- the root is gone,
  pub root_gone : (name : Key) (found : Option ℕ) (root : ℕ) (n : Sequel) → name ≡ j.tree.name → found ≡ s.roots name → found ≡ Some root → None ≡ view_of root (s.pages root) → AdvancesOnPath j s stage.Root n s
  root_gone name found root n called is_found is_some read = passes_never j s s stage.Root n
      (λ path k. live_at s j.aim k.root true path k.clean (subst (λ r. s.pages r ≡ None) (some_is (sym is_some ∙ is_found ∙ ap s.roots called ∙ k.is_root)) (gone root (s.pages root) read)))

  -- or it was read
  pub root_passes : (name : Key) (found : Option ℕ) (root : ℕ) (view : View) (n : Sequel) → name ≡ j.tree.name → found ≡ s.roots name → found ≡ Some root → Some view ≡ view_of root (s.pages root)
      → AdvancesFromPage j view reached.Root n → AdvancesOnPath j s stage.Root n s
  root_passes name found root view n called is_found is_some read t = record {
    is = λ path k.
        let v = viewed root (s.pages root) view read in
        t.is s path (ap s.pages v.0 ∙ v.1) (subst (λ r. CleanFrom (nodes_of s) j.aim r true path) (some_is (sym k.is_root ∙ sym (ap s.roots called) ∙ sym is_found ∙ is_some) ∙ sym v.0) k.clean);
  }

  -- the cursor is gone,
  pub cursor_gone : (a : Walk) (n : Sequel) → None ≡ view_of a.cursor (s.pages a.cursor) → AdvancesOnPath j s (stage.Walk a) n s
  cursor_gone a n read = passes_never j s s (stage.Walk a) n (λ path k. let c = clean_ahead (nodes_of s) j.aim a.cursor a.reached path k in live_at s j.aim a.cursor c.0 path c.1 (gone a.cursor (s.pages a.cursor) read))

  -- or it was read
  pub cursor_passes : (a : Walk) (view : View) (n : Sequel) → Some view ≡ view_of a.cursor (s.pages a.cursor) → AdvancesFromPage j view a.reached n → AdvancesOnPath j s (stage.Walk a) n s
  cursor_passes a view n read t = record {
    is = λ path k.
        let v = viewed a.cursor (s.pages a.cursor) view read in
        t.is s path (ap s.pages v.0 ∙ v.1) (subst (λ c. IsAheadOf (nodes_of s) j.aim c a.reached path) (sym v.0) k);
  }

-- a walk that comes to a page of a clean path passes it
steps : (s : State) (aim : Bound Key) (path : List ℕ) (view : View) (first : Bool) → IsUnchanged s view → CleanFrom (nodes_of s) aim view.pid first path → CleanStep (nodes_of s) aim path view.pid first view.node
steps s aim path view first live k = clean_step_law (nodes_of s) aim path view.pid first view.node k (ap (option_map (λ (g : Page). g.node)) live)

-- a page under the aim does not end within it
pub not_behind : (n : Node) (aim : Bound Key) → LiesUnder aim n → EndsWithin n aim → ⊥
not_behind n aim under ends = elim under.1 [ inl endless ↦ ends.0 endless | inr off ↦ true_false (sym ends.1 ∙ off) ]

module _ (j : Course) (view : View) (by : Reached) (n : Sequel) where
  -- no clean path comes here
  pub shut : ((nodes : Nodes) (first : Bool) → NeedsNoRepair nodes j.aim view.pid first view.node → ⊥) → AdvancesFromPage j view by n
  shut off = record { is = λ s path live k. let c = clean_ahead (nodes_of s) j.aim view.pid by path k in absurd (off (nodes_of s) c.0 (steps s j.aim path view c.0 live c.1).passed) }

  pub shut_merging : view.node.merging ≡ true → AdvancesFromPage j view by n
  shut_merging capped = shut (λ nodes first passed. true_false (sym capped ∙ passed.is_open.not_merging))

  pub shut_child : (child : ℕ) → view.node.merging_child ≡ Some child → AdvancesFromPage j view by n
  shut_child child e = shut (λ nodes first passed. none_some (sym passed.is_open.free ∙ e))

  pub shut_long : {P : Type 0} (b : Bool) → IsTrue b ↔ ((16 < count view.node.content) × P) → b ≡ true → AdvancesFromPage j view by n
  shut_long b told is = shut (λ nodes first passed. over (count view.node.content) (told.0 is).0 passed.fits)
    where
      over : (c : ℕ) → 16 < c → c ≤ 16 → ⊥
      over c a b = omega arith

  pub shut_outside : (b : Bool) (bound : Bound Key) → bound ≡ j.aim → IsTrue b ↔ LiesUnder bound view.node → b ≡ false → AdvancesFromPage j view by n
  shut_outside b bound e told off = shut (λ nodes first passed. untrue b told off (subst (λ z. LiesUnder z view.node) (sym e) passed.under))

  pub shut_behind : (b : Bool) (bound : Bound Key) → bound ≡ j.aim → IsTrue b ↔ EndsWithin view.node bound → b ≡ true → AdvancesFromPage j view by n
  shut_behind b bound e told is = shut (λ nodes first passed. not_behind view.node j.aim passed.under (subst (EndsWithin view.node) e (told.0 is)))

-- a walk that came to a page by `next` is on no clean path, nor is one that came by a later pointer to a page of few entries
pub shut_next : (j : Course) (view parent : View) (n : Sequel) → AdvancesFromPage j view (reached.Next parent) n
shut_next j view parent n = record { is = λ s path live k. absurd k }

pub shut_few : (j : Course) (view parent : View) (n : Sequel) → count view.node.content ≤ 3 → AdvancesFromPage j view (reached.LaterPointer parent) n
shut_few j view parent n fits = record { is = λ s path live k. true_false (sym ((steps s j.aim path view false live k).passed.many fits)) }

-- one alone is the last, so that some element passes
last_any : {X : Type 0} (p : X → Bool) (xs : List X) (x : X) → IsLast p xs x → list_any p xs ≡ false → ⊥
last_any p xs x k none = true_false (sym (some (list_any p k.before) (p x) (list_any p k.after) k.passed) ∙ sym (ap (list_any p) k.is ∙ list_any-append p k.before (x ∷ k.after)) ∙ none)
  where
    some : (a b c : Bool) → b ≡ true → (a || (b || c)) ≡ true
    some true b c e = refl
    some false true c e = refl
    some false false c e = true_false (sym e)

module _ (j : Course) (view : View) (by : Reached) where
  -- an index without a pointer is on no clean path,
  pub shut_pointless : (bound : Bound Key) → bound ≡ j.aim → IsIndex view.node.content → IsPointerFor bound (pointers view.node.content) None → (n : Sequel) → AdvancesFromPage j view by n
  shut_pointless bound e index none n = record { is = λ s path live k. let c = clean_ahead (nodes_of s) j.aim view.pid by path k in absurd (go s path c.0 live c.1) }
    where
      b : (es : List (Key × ℕ)) × (view.node.content ≡ Index es)
      b = index_is view.node.content index

      go : (s : State) (path : List ℕ) (first : Bool) → IsUnchanged s view → CleanFrom (nodes_of s) j.aim view.pid first path → ⊥
      go s [] first live k = k
      go s (q ∷ rest) first live (at, m, passed, more) =
          let same : m ≡ view.node = some_is (sym passed.live ∙ ap (option_map (λ (g : Page). g.node)) live) in
          elim more [
            | inl l ↦ leaf_index (sym (ap (λ (z : Node). z.content) same ∙ b.1) ∙ l.1)
            | inr i ↦ last_any _ i.0 _ i.4.last
                (subst (λ es. list_any (λ e. Rattle.sled_nodes.specs.Among.is_up_to j.aim e.0) es ≡ false) (same_index (sym b.1 ∙ ap (λ (z : Node). z.content) (sym same) ∙ i.1))
                (subst (λ z. list_any (λ e. Rattle.sled_nodes.specs.Among.is_up_to z e.0) b.0 ≡ false) e
                (subst (λ d. list_any (λ e. Rattle.sled_nodes.specs.Among.is_up_to bound e.0) (pointers d) ≡ false) b.1 none)))
          ]
        where
          leaf_index : {P : Type 0} {es : List (Key × ℕ)} {fs : List (Key × Key)} → Index es ≡ Leaf fs → P
          leaf_index e = cc

          same_index : {es fs : List (Key × ℕ)} → Index es ≡ Index fs → es ≡ fs
          same_index e = cc

  -- below one with a pointer the rest of the path is ahead,
  pub down_passes : (c : ℕ) (first : Bool) → IsIndex view.node.content → IsPointer j.aim (pointers view.node.content) c first
      → AdvancesFromPage j view by (sequel.Go (stage.Walk (record { cursor = c; reached = by_pointer view first })))
  down_passes c first index is_last = record {
    is = λ s path live k.
        let b = index_is view.node.content index in
        let a = clean_ahead (nodes_of s) j.aim view.pid by path k in
        let d = (steps s j.aim path view a.0 live a.1).down b.0 c first b.1 (subst (λ d. IsPointer j.aim (pointers d) c first) b.1 is_last) in
        (d.0, ap length d.1, go first (nodes_of s) d.0 d.2);
  }
    where
      go : (first : Bool) (nodes : Nodes) (rest : List ℕ) → CleanFrom nodes j.aim c first rest → IsAheadOf nodes j.aim c (by_pointer view first) rest
      go true nodes rest k = k
      go false nodes rest k = k

  -- and a leaf is its end
  pub leaf_passes : IsLeaf view.node.content → reply_at j.call view.node.content ≡ None → AdvancesFromPage j view by (sequel.Go (stage.Act view))
  leaf_passes leaf changes = record {
    is = λ s path live k.
        let b = leaf_is view.node.content leaf in
        let a = clean_ahead (nodes_of s) j.aim view.pid by path k in
        ([], ap length ((steps s j.aim path view a.0 live a.1).leaf b.0 b.1), (refl, live, changes));
  }

  -- and so it is one whose pairs a scan is to give
  pub kept_passes : IsLeaf view.node.content → AdvancesFromPage j view by (sequel.Go (stage.Give (record { leaf = view; given = 0 })))
  kept_passes leaf = record {
    is = λ s path live k.
        let b = leaf_is view.node.content leaf in
        let a = clean_ahead (nodes_of s) j.aim view.pid by path k in
        ([], ap length ((steps s j.aim path view a.0 live a.1).leaf b.0 b.1), refl);
  }

-- the leaf is unchanged, so that the call does not begin again
pub act_current : (j : Course) (old new : Store) (view : View) {change : Node → Node} {present : Option ℕ} (n : Sequel) → Changes change view.pid view.version old new (Err present) → AdvancesOnPath j (now old) (stage.Act view) n (now new)
act_current j old new view n c = passes_never j (now old) (now new) (stage.Act view) n (λ path k. c.is.2 (c.is.1 ∙ ap (option_map (λ (g : Page). g.version)) k.1))

-- it changes the leaf
pub act_changes : (operator : Option Operator) (j : Course) (old new : State) (view : View) (n : Sequel) → (decision_at operator j.call view.node.content).effect ≡ Nothing → AdvancesOnPath j old (stage.Act view) n new
act_changes operator j old new view n none = passes_never j old new (stage.Act view) n (λ path k. links_law operator j.call (value_at view.node.content (key_of j.call)) k.2 none)

-- a step after which the call goes on
pub passes_further : (old new : State) (f : InFlight) (taken stage : Stage) (n : Sequel) → taken ≡ f.stage → n ≡ sequel.Go stage → AdvancesOnPath (course_of f) old taken n new → StepsOnPath old f went.Moved new (record { job = f.job; aim = f.aim; stage = stage; turns = f.turns + 1 })
passes_further old new f taken stage n e is p = record { is = λ path k. (subst (λ z. AdvancesOnPath (course_of f) old taken z new) is p).is path (subst (λ z. IsOnPath old (course_of f) z path) (sym e) k) }
