-- A call that is to make a page its left half has halves that a split makes.
use Rattle.std.proofs.Common.{◌≡◌, ℕ, Bool, Option, Some, None, Result, Ok, Err, MatchOption, option_map, sym, refl, ap, ◌∙◌, subst, inl, inr}
use Rattle.sled_nodes.specs.Node.{after_link}
use Rattle.sled_nodes.specs.Order.{Key}
use Rattle.sled_nodes.specs.declared.node.Data.{Data}
use Rattle.sled_nodes.specs.declared.node.Data.TheVariants.{Leaf, Index}
use Rattle.sled_nodes.specs.declared.node.Node.{Node}
use Rattle.sled_nodes.specs.Ranges.{Range}
use Rattle.sled_store.specs.In.{In}
use Rattle.sled_store.specs.State.{State, Nodes, nodes_of}
use Rattle.sled_store.specs.Store.{Store, now}
use Rattle.sled_store.specs.theory.Facts.{now_allocates, put_here}
use Rattle.sled_store.specs.declared.page.Page.{Page}
use Rattle.sled_store.specs.declared.page.View.{View}
use Rattle.sled_model.specs.Answer.{key_of}
use Rattle.sled_model.specs.State.{range_of}
use Rattle.sled_model.specs.declared.decision.Effect.{Effect}
use Rattle.sled_model.specs.declared.decision.Effect.TheVariants as effect
use Rattle.sled_model.specs.declared.reply.Reply.{Reply}
use Rattle.tree_laws.specs.Stages.{owned}
use Rattle.tree_laws.specs.declared.flight.Posting.{Posting}
use Rattle.tree_laws.specs.declared.flight.Posting.TheVariants as posting
use Rattle.tree_laws.specs.declared.flight.Reached.{Reached}
use Rattle.tree_laws.specs.declared.flight.Reached.TheVariants as reached
use Rattle.tree_laws.specs.declared.flight.Seek.{Seek}
use Rattle.tree_laws.specs.declared.flight.Merge.{Merge}
use Rattle.tree_laws.specs.declared.flight.Stage.{Stage}
use Rattle.tree_laws.specs.declared.flight.Stage.TheVariants as stage
use Rattle.sled_tree.specs.Change.{decision_at, link_of}
use Rattle.sled_tree.specs.Course.{Course}
use Rattle.sled_tree.specs.Follows.{Where, OrNoMemory, OrRefused, TakesWay, FollowsPage, resumed, begun, onward, down, done_at, searched, after_install_left, after_swap_root, read_again, sought_again, follows_leaf_as, follows_content, follows_here, follows_open, follows_not_merging, follows_read, follows_child_not_merging, follows_child, follows_cursor_not_merging, follows_cursor, follows_root, follows_as}
use Rattle.sled_tree.specs.declared.flight.Sequel.{Sequel}
use Rattle.sled_tree.specs.declared.flight.Sequel.TheVariants.{Go, Decided}
use Rattle.tree_progress.specs.Steps.{HasHalves, NextHasHalves, HalvesLaw}

module _ (n : Nodes) (next : Sequel) where
  abbrev Has : Type 0
  Has = NextHasHalves n next

  to : (x : Sequel) → NextHasHalves n x → next ≡ x → Has
  to x h e = subst (NextHasHalves n) (sym e) h

  or_memory : (x : Sequel) → NextHasHalves n x → OrNoMemory next x → Has
  or_memory x h (inl e) = to x h e
  or_memory x h (inr e) = to _ tt e

  where_has : {C A B : Type 0} → (C → A → Has) → (B → Has) → Where C A B → Has
  where_has a b (inl y) = a y.0 y.1
  where_has a b (inr y) = b y.1

  resumed_has : (v : View) (c : ℕ) (o : Option ℕ) → next ≡ resumed v c o → Has
  resumed_has v c None e = to _ tt e
  resumed_has v c (Some b) e = to _ tt e

  begun_has : (v : View) (c : ℕ) (o : Option ℕ) → next ≡ begun v c o → Has
  begun_has v c None e = to _ tt e
  begun_has v c (Some b) e = to _ tt e

  onward_has : (v : View) (q : Option ℕ) (o : Option View) → NextHasHalves n (onward v q o)
  onward_has v None o = tt
  onward_has v (Some q) None = tt
  onward_has v (Some q) (Some p) = tt

  down_has : (v : View) (o : Option (ℕ × Bool)) → next ≡ down v o → Has
  down_has v None e = to _ tt e
  down_has v (Some c) e = to _ tt e

  done_has : (v : View) (o : Option Reply) → NextHasHalves n (done_at v o)
  done_has v None = tt
  done_has v (Some r) = tt

  page_has : (s : Store) (pid : ℕ) (found : View → Sequel → Type 0) → ((v : View) → found v next → Has) → FollowsPage s pid found next → Has
  page_has s pid found law k = elim k.is [ inl y ↦ go _ y.1 | inr y ↦ to _ tt y.1 ]
    where
      go : (o : Option View) → MatchOption o (next ≡ Go stage.Root) (λ v. found v next) → Has
      go None e = to _ tt e
      go (Some v) e = law v e

  leaf_has : (j : Course) (v : View) (o : Option Range) → follows_leaf_as o j v next → Has
  leaf_has j v None k = or_memory _ (done_has v _) k
  leaf_has j v (Some r) k = to _ tt k

  content_has : (j : Course) (v : View) (c : Data) → follows_content c j v next → Has
  content_has j v (Index es) k = down_has v _ k.is
  content_has j v (Leaf es) k = leaf_has j v (range_of j.call) k

  here_has : (j : Course) (v : View) (by : Reached) → follows_here j v by next → Has
  here_has j v reached.Root k = content_has j v _ k
  here_has j v (reached.FirstPointer p) k = content_has j v _ k
  here_has j v (reached.LaterPointer p) k = where_has (λ c a. begun_has p v.pid _ a.is) (content_has j v _) k
  here_has j v (reached.Next p) k = or_memory _ tt k

  open_has : (j : Course) (v : View) (by : Reached) → follows_open j v by next → Has
  open_has j v by k = where_has (λ c a. to _ tt a) (where_has (λ c a. or_memory _ (onward_has v _ _) a) (where_has (λ c a. here_has j v by a) (λ a. to _ tt a))) k

  read_has : (j : Course) (v : View) (by : Reached) → follows_read j v by next → Has
  read_has j v by k = where_has (λ c a. to _ tt a) (go v.node.merging_child) k
    where
      go : (o : Option ℕ) → follows_not_merging o j v by next → Has
      go None a = open_has j v by a
      go (Some c) a = resumed_has v c _ a.is

  child_has : (a : Merge) (v : View) → follows_child a v next → Has
  child_has a v k = where_has (λ c x. to _ tt x) (go v.node.merging_child) k
    where
      go : (o : Option ℕ) → follows_child_not_merging o a v next → Has
      go None x = to _ tt x
      go (Some c) x = resumed_has v c _ x.is

  cursor_has : (a : Seek) (v : View) → follows_cursor a v next → Has
  cursor_has a v k = where_has (λ c x. to _ tt x) (go v.node.merging_child) k
    where
      on : (o : Option ℕ) → next ≡ searched a o → Has
      on None e = to _ tt e
      on (Some q) e = to _ tt e

      go : (o : Option ℕ) → follows_cursor_not_merging o a v next → Has
      go None x = where_has (λ c y. where_has (λ d z. to _ tt z) (λ z. to _ tt z) y) (where_has (λ c y. to _ tt y) (on v.node.next)) x
      go (Some c) x = resumed_has v c _ x.is

  root_has : (j : Course) (s : Store) (o : Option ℕ) → follows_root j s o next → Has
  root_has j s None k = to _ tt k
  root_has j s (Some r) k = page_has s r _ (λ v. read_has j v reached.Root) k

  refused_has : {old new : Store} {comes : Type 0} → (comes → Has) → OrRefused old new next comes → Has
  refused_has law (inl k) = law k
  refused_has law (inr k) = to _ tt k.1

  takes_has : {change : Node → Node} {pid version : ℕ} {old new : Store} (took : ℕ → Sequel) (late : Option ℕ → Sequel) → ((v : ℕ) → NextHasHalves n (took v)) → ((o : Option ℕ) → NextHasHalves n (late o)) → TakesWay change pid version old new next took late → Has
  takes_has took late a b (inl k) = to _ (a k.0) k.2
  takes_has took late a b (inr k) = to _ (b k.0) k.2

halves_step : (j : Course) (old new : Store) (a : Stage) (next : Sequel) → follows_as j old a next new → NextHasHalves (nodes_of (now new)) next
halves_step j old new stage.Root next k = root_has (nodes_of (now new)) next j old _ k.1
halves_step j old new (stage.Walk a) next k = page_has (nodes_of (now new)) next old a.cursor _ (λ v. read_has (nodes_of (now new)) next j v a.reached) k.1
halves_step j old new (stage.Child a) next k = page_has (nodes_of (now new)) next old a.child _ (child_has (nodes_of (now new)) next a) k.1
halves_step j old new (stage.Seek a) next k = page_has (nodes_of (now new)) next old a.cursor _ (cursor_has (nodes_of (now new)) next a) k.1
halves_step j old new (stage.Give a) next k = absurd k
halves_step j old new (stage.Act v) next k = refused_has (nodes_of (now new)) next (λ y. go (new ≡ old) (decision_at y.operator j.call v.node.content).reply (decision_at y.operator j.call v.node.content).effect (key_of j.call) y.is) k
  where
    go : (none : Type 0) (reply : Reply) (e : Effect) (key : Key) → MatchOption (link_of e key) (none × (next ≡ Go stage.Root)) (λ link. TakesWay (after_link link) v.pid v.version old new next (λ _. Decided reply) (λ _. Go stage.Root)) → NextHasHalves (nodes_of (now new)) next
    go none reply effect.Nothing key y = to (nodes_of (now new)) next _ tt y.1
    go none reply (effect.Set value) key y = takes_has (nodes_of (now new)) next _ _ (λ v. tt) (λ o. tt) y
    go none reply effect.Remove key y = takes_has (nodes_of (now new)) next _ _ (λ v. tt) (λ o. tt) y
halves_step j old new (stage.Split a) next k = refused_has (nodes_of (now new)) next (where_has (nodes_of (now new)) next
    (λ c y. to (nodes_of (now new)) next _ (c.0, refl, ap (λ z. nodes_of z y.right) (now_allocates _ y.right y.version old new y.made) ∙ ap (option_map (λ (z : Page). z.node)) (put_here (now old).pages y.right _)) y.is)
    (λ y. to (nodes_of (now new)) next _ tt y.1)) k
halves_step j old new (stage.InstallLeft a) next k = refused_has (nodes_of (now new)) next (takes_has (nodes_of (now new)) next _ _ (λ v. on a.posting) (λ o. tt)) k
  where
    on : (p : Posting) → NextHasHalves (nodes_of (now new)) (after_install_left a p)
    on (posting.Parent parent) = tt
    on posting.Root = tt
    on posting.Nowhere = tt
halves_step j old new (stage.Post a) next k = refused_has (nodes_of (now new)) next (where_has (nodes_of (now new)) next (λ c y. takes_has (nodes_of (now new)) next _ _ (λ v. tt) (λ o. tt) y) (λ y. to (nodes_of (now new)) next _ tt y.1)) k
halves_step j old new (stage.Hoist a) next k = refused_has (nodes_of (now new)) next (λ y. to (nodes_of (now new)) next _ tt y.is) k
halves_step j old new (stage.SwapRoot a) next k = refused_has (nodes_of (now new)) next (λ y. to (nodes_of (now new)) next _ (on y.answer) y.is) k
  where
    on : (answer : Result (Unit {0}) (Option ℕ)) → NextHasHalves (nodes_of (now new)) (after_swap_root a answer)
    on (Ok done) = tt
    on (Err o) = tt
halves_step j old new (stage.Free a) next k = refused_has (nodes_of (now new)) next (λ y. to (nodes_of (now new)) next _ tt y.is) k
halves_step j old new (stage.Intend a) next k = refused_has (nodes_of (now new)) next (takes_has (nodes_of (now new)) next _ _ (λ v. tt) (λ o. tt)) k
halves_step j old new (stage.Cap a) next k = refused_has (nodes_of (now new)) next (takes_has (nodes_of (now new)) next _ _ (λ v. tt) on) k
  where
    on : (o : Option ℕ) → NextHasHalves (nodes_of (now new)) (read_again a.merge o)
    on None = tt
    on (Some p) = tt
halves_step j old new (stage.Receive a) next k = refused_has (nodes_of (now new)) next (takes_has (nodes_of (now new)) next _ _ (λ v. tt) on) k
  where
    on : (o : Option ℕ) → NextHasHalves (nodes_of (now new)) (sought_again a o)
    on None = tt
    on (Some p) = tt
halves_step j old new (stage.Confirm a) next k = refused_has (nodes_of (now new)) next (takes_has (nodes_of (now new)) next _ _ (λ v. tt) (λ o. tt)) k

halves_stay : (a : Stage) (old new : State) → ((q : ℕ) → In q (owned a) → new.pages q ≡ old.pages q) → HasHalves (nodes_of old) a → HasHalves (nodes_of new) a
halves_stay (stage.InstallLeft a) old new same h = (h.0, h.1, ap (option_map (λ (z : Page). z.node)) (same a.right (inl refl)) ∙ h.2)
halves_stay stage.Root old new same h = tt
halves_stay (stage.Walk a) old new same h = tt
halves_stay (stage.Act a) old new same h = tt
halves_stay (stage.Give a) old new same h = tt
halves_stay (stage.Split a) old new same h = tt
halves_stay (stage.Post a) old new same h = tt
halves_stay (stage.Hoist a) old new same h = tt
halves_stay (stage.SwapRoot a) old new same h = tt
halves_stay (stage.Free a) old new same h = tt
halves_stay (stage.Intend a) old new same h = tt
halves_stay (stage.Child a) old new same h = tt
halves_stay (stage.Cap a) old new same h = tt
halves_stay (stage.Seek a) old new same h = tt
halves_stay (stage.Receive a) old new same h = tt
halves_stay (stage.Confirm a) old new same h = tt

pub halves_law : HalvesLaw
halves_law = record { begins = λ nodes. tt; steps = λ j old new a next k. halves_step j old new a next k.is; stays = halves_stay }
