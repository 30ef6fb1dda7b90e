-- What is known of a call that comes to its change, or is decided before it: it did nothing, and the leaf stands as it was read.
use Rattle.std.proofs.Common.{◌≡◌, ℕ, ◌⊎◌, Bool, Option, Some, None, MatchOption, Result, Ok, Err, sym, refl, ap, ◌∙◌, subst, inl, inr}
use Rattle.sled_nodes.proofs.Basics.{none_some, some_is}
use Rattle.sled_nodes.specs.Node.{after_link}
use Rattle.sled_store.specs.Store.{Store, now, view_of}
use Rattle.sled_nodes.specs.declared.error.Error.{Error}
use Rattle.sled_nodes.specs.declared.link.Link.{Link}
use Rattle.sled_nodes.specs.declared.node.Node.{Node}
use Rattle.sled_nodes.specs.declared.node.Data.{Data}
use Rattle.sled_nodes.specs.declared.node.Data.TheVariants.{Leaf, Index}
use Rattle.sled_store.specs.declared.page.Page.{Page}
use Rattle.sled_store.specs.declared.page.View.{View}
use Rattle.sled_nodes.specs.Ranges.{Range}
use Rattle.sled_model.specs.Answer.{key_of}
use Rattle.sled_model.specs.State.{range_of}
use Rattle.tree_laws.specs.declared.flight.Giving.{Giving}
use Rattle.sled_model.specs.declared.reply.Reply.{Reply}
use Rattle.sled_tree.specs.Change.{decision_at, link_of}
use Rattle.tree_laws.specs.declared.flight.SwapRoot.{SwapRoot}
use Rattle.sled_tree.specs.Course.{Course}
use Rattle.tree_laws.specs.declared.flight.Merge.{Merge}
use Rattle.sled_tree.specs.declared.flight.Sequel.{Sequel}
use Rattle.sled_tree.specs.declared.flight.Sequel.TheVariants as sequel
use Rattle.tree_laws.specs.declared.flight.Posting.{Posting}
use Rattle.tree_laws.specs.declared.flight.Posting.TheVariants as posting
use Rattle.tree_laws.specs.declared.flight.Receive.{Receive}
use Rattle.tree_laws.specs.declared.flight.Seek.{Seek}
use Rattle.tree_laws.specs.declared.flight.InstallLeft.{InstallLeft}
use Rattle.tree_laws.specs.declared.flight.Stage.{Stage}
use Rattle.tree_laws.specs.declared.flight.Stage.TheVariants as stage
use Rattle.tree_laws.specs.Stages.{parent_of}
use Rattle.tree_laws.specs.declared.flight.Reached.{Reached}
use Rattle.tree_laws.specs.declared.flight.Reached.TheVariants as reached
use Rattle.sled_tree.specs.Passing.{IsUnchanged}
use Rattle.sled_tree.specs.Follows.{resumed, begun, onward, pointed, down, done_at, OrNoMemory, follows_leaf_as, follows_content, follows_here, follows_open, follows_not_merging, follows_read, follows_child, follows_child_not_merging, follows_cursor, follows_cursor_not_merging, follows_search, follows_met, searched, FollowsPage, follows_root, LinksChange, OrRefused, TakesWay, after_install_left, after_swap_root, read_again, sought_again, follows_as, Follows}

-- the leaf of the change that comes next, or the one whose pairs are given next and how many were
abbrev acting : Sequel → Option (View × ℕ)
acting (sequel.Go (stage.Act v)) = Some (v, 0)
acting (sequel.Go (stage.Give a)) = Some (a.leaf, a.given)
acting other = None

-- the stage is neither that of a change nor one that gives pairs
abbrev HasNoLeaf : Stage → Type 0
HasNoLeaf (stage.Act v) = ⊥
HasNoLeaf (stage.Give a) = ⊥
HasNoLeaf other = Unit {0}

-- the reply where the call is decided
abbrev deciding : Sequel → Option Reply
deciding (sequel.Decided reply) = Some reply
deciding other = None

-- the stage reads a page
abbrev pub IsReading : Stage → Type 0
IsReading stage.Root = Unit {0}
IsReading (stage.Walk a) = Unit {0}
IsReading (stage.Child a) = Unit {0}
IsReading (stage.Seek a) = Unit {0}
IsReading other = ⊥

-- What comes next is of one of these kinds. An action of a repair leads to none of it
module _ {X : Type 0} (kind : Sequel → Option X) (x : X) (n : Sequel) (is : kind n ≡ Some x) where
  none_of : {P : Type 0} (m : Sequel) → n ≡ m → kind m ≡ None → P
  none_of m e none = none_some (sym none ∙ sym (ap kind e) ∙ is)

  module _ (refused : (e : Error) → kind (sequel.Refused e) ≡ None) where
    or_refused : {P : Type 0} {old new : Store} {comes : Type 0} → OrRefused old new n comes → (comes → P) → P
    or_refused (inl c) f = f c
    or_refused (inr r) f = none_of _ r.1 (refused r.0)

    module _ (goes : (a : Stage) → HasNoLeaf a → kind (sequel.Go a) ≡ None) where
      taken : {P : Type 0} {change : Node → Node} {pid version : ℕ} {old new : Store} {took : ℕ → Sequel} {late : Option ℕ → Sequel}
          → ((given : ℕ) → kind (took given) ≡ None) → ((present : Option ℕ) → kind (late present) ≡ None) → TakesWay change pid version old new n took late → P
      taken t l (inl k) = none_of _ k.2 (t k.0)
      taken t l (inr k) = none_of _ k.2 (l k.0)

      root : kind (sequel.Go stage.Root) ≡ None
      root = goes stage.Root tt

      shortened_none : (a : InstallLeft) (p : Posting) → kind (after_install_left a p) ≡ None
      shortened_none a (posting.Parent parent) = goes _ tt
      shortened_none a posting.Root = goes _ tt
      shortened_none a posting.Nowhere = root

      crowned_none : (a : SwapRoot) (answer : Result (Unit {0}) (Option ℕ)) → kind (after_swap_root a answer) ≡ None
      crowned_none a (Ok done) = root
      crowned_none a (Err present) = goes _ tt

      read_again_none : (a : Merge) (present : Option ℕ) → kind (read_again a present) ≡ None
      read_again_none a None = root
      read_again_none a (Some p) = goes _ tt

      sought_again_none : (a : Receive) (present : Option ℕ) → kind (sought_again a present) ≡ None
      sought_again_none a None = root
      sought_again_none a (Some p) = goes _ tt

      -- so it comes of a read, or of the call's change
      pub reads_or_acts : (j : Course) (old new : Store) (a : Stage) → follows_as j old a n new → (IsReading a × (new ≡ old)) ⊎ ((v : View) × (a ≡ stage.Act v))
      reads_or_acts j old new stage.Root f = inl (tt, f.0)
      reads_or_acts j old new (stage.Walk a) f = inl (tt, f.0)
      reads_or_acts j old new (stage.Act v) f = inr (v, refl)
      reads_or_acts j old new (stage.Give a) f = absurd f
      reads_or_acts j old new (stage.Split a) f = or_refused f (λ c. elim c [ inl k ↦ none_of _ k.1.is (goes _ tt) | inr k ↦ none_of _ k.1.1 root ])
      reads_or_acts j old new (stage.InstallLeft a) f = or_refused f (taken (λ given. shortened_none a a.posting) (λ present. goes _ tt))
      reads_or_acts j old new (stage.Post a) f = or_refused f (λ c. elim c [ inl k ↦ taken (λ given. root) (λ present. root) k.1 | inr k ↦ none_of _ k.1.1 root ])
      reads_or_acts j old new (stage.Hoist a) f = or_refused f (λ c. none_of _ c.is (goes _ tt))
      reads_or_acts j old new (stage.SwapRoot a) f = or_refused f (λ c. none_of _ c.is (crowned_none a c.answer))
      reads_or_acts j old new (stage.Free a) f = or_refused f (λ c. none_of _ c.is root)
      reads_or_acts j old new (stage.Intend a) f = or_refused f (taken (λ given. goes _ tt) (λ present. root))
      reads_or_acts j old new (stage.Child a) f = inl (tt, f.0)
      reads_or_acts j old new (stage.Cap a) f = or_refused f (taken (λ given. goes _ tt) (read_again_none a.merge))
      reads_or_acts j old new (stage.Seek a) f = inl (tt, f.0)
      reads_or_acts j old new (stage.Receive a) f = or_refused f (taken (λ given. goes _ tt) (sought_again_none a))
      reads_or_acts j old new (stage.Confirm a) f = or_refused f (taken (λ given. goes _ tt) (λ present. root))

-- a call that is decided elsewhere than by its change is decided at a read, which leaves the store as it is
pub decided_law : (j : Course) (old new : Store) (a : Stage) (reply : Reply) → Follows j old a (sequel.Decided reply) new → (IsReading a × (new ≡ old)) ⊎ ((v : View) × (a ≡ stage.Act v))
decided_law j old new a reply f = reads_or_acts deciding reply (sequel.Decided reply) refl (λ e. refl) (λ b plain. refl) j old new a f.is

-- the leaf stands as it was read, and nothing of it was given
abbrev IsLeafNow : Store → View × ℕ → Type 0
IsLeafNow s v = IsUnchanged (now s) v.0 × (v.1 ≡ 0)

module _ (v : View × ℕ) (n : Sequel) (is : acting n ≡ Some v) where
  -- nothing else comes next
  off : {P : Type 0} (m : Sequel) → n ≡ m → acting m ≡ None → P
  off m e none = none_some (sym none ∙ sym (ap acting e) ∙ is)

  resumed_off : {P : Type 0} (u : View) (child : ℕ) (before : Option ℕ) → n ≡ resumed u child before → P
  resumed_off u child None e = off _ e refl
  resumed_off u child (Some before) e = off _ e refl

  onward_off : {P : Type 0} (u : View) (q : Option ℕ) (parent : Option View) → OrNoMemory n (onward u q parent) → P
  onward_off u None parent (inl e) = off _ e refl
  onward_off u (Some q) None (inl e) = off _ e refl
  onward_off u (Some q) (Some parent) (inl e) = off _ e refl
  onward_off u q parent (inr e) = off _ e refl

  pointed_off : {P : Type 0} (u parent : View) → OrNoMemory n (pointed u parent) → P
  pointed_off u parent (inl e) = off _ e refl
  pointed_off u parent (inr e) = off _ e refl

  begun_off : {P : Type 0} (parent : View) (child : ℕ) (before : Option ℕ) → n ≡ begun parent child before → P
  begun_off parent child None e = off _ e refl
  begun_off parent child (Some before) e = off _ e refl

  down_off : {P : Type 0} (u : View) (found : Option (ℕ × Bool)) → n ≡ down u found → P
  down_off u None e = off _ e refl
  down_off u (Some c) e = off _ e refl

  -- the leaf that was read is the one of the change, and of it nothing was given
  leaf_at : (u : View) (reply : Option Reply) → n ≡ done_at u reply → (u, 0) ≡ v
  leaf_at u (Some reply) e = off _ e refl
  leaf_at u None e = some_is (sym (ap acting e) ∙ is)

  content_at : (j : Course) (u : View) (d : Data) → follows_content d j u n → (u, 0) ≡ v
  content_at j u (Index es) d = down_off u d.found d.is
  content_at j u (Leaf es) f = go (range_of j.call) f
    where
      go : (range : Option Range) → follows_leaf_as range j u n → (u, 0) ≡ v
      go None (inl e) = leaf_at u _ e
      go None (inr e) = off _ e refl
      go (Some range) e = some_is (sym (ap acting e) ∙ is)

  here_at : (j : Course) (u : View) (by : Reached) → follows_here j u by n → (u, 0) ≡ v
  here_at j u reached.Root f = content_at j u u.node.content f
  here_at j u (reached.FirstPointer parent) f = content_at j u u.node.content f
  here_at j u (reached.LaterPointer parent) (inl (c, f)) = begun_off parent u.pid f.before f.is
  here_at j u (reached.LaterPointer parent) (inr (c, f)) = content_at j u u.node.content f
  here_at j u (reached.Next parent) f = pointed_off u parent f

  open_at : (j : Course) (u : View) (by : Reached) → follows_open j u by n → (u, 0) ≡ v
  open_at j u by (inl (c, e)) = off _ e refl
  open_at j u by (inr (c, inl (d, f))) = onward_off u u.node.next (parent_of by) f
  open_at j u by (inr (c, inr (d, inl (k, f)))) = here_at j u by f
  open_at j u by (inr (c, inr (d, inr (k, e)))) = off _ e refl

  awake_at : (j : Course) (u : View) (by : Reached) (child : Option ℕ) → follows_not_merging child j u by n → (u, 0) ≡ v
  awake_at j u by None f = open_at j u by f
  awake_at j u by (Some child) r = resumed_off u child r.before r.is

  read_at : (j : Course) (u : View) (by : Reached) → follows_read j u by n → (u, 0) ≡ v
  read_at j u by (inl (c, e)) = off _ e refl
  read_at j u by (inr (c, f)) = awake_at j u by u.node.merging_child f

  child_off : {P : Type 0} (a : Merge) (u : View) → follows_child a u n → P
  child_off {P} a u (inl (c, e)) = off _ e refl
  child_off {P} a u (inr (c, f)) = go u.node.merging_child f
    where
      go : (child : Option ℕ) → follows_child_not_merging child a u n → P
      go None e = off _ e refl
      go (Some child) r = resumed_off u child r.before r.is

  met_off : {P : Type 0} (a : Seek) (u : View) → follows_met a u n → P
  met_off a u (inl (c, e)) = off _ e refl
  met_off a u (inr (c, e)) = off _ e refl

  searched_off : {P : Type 0} (a : Seek) (q : Option ℕ) → n ≡ searched a q → P
  searched_off a None e = off _ e refl
  searched_off a (Some q) e = off _ e refl

  search_off : {P : Type 0} (a : Seek) (u : View) → follows_search a u n → P
  search_off a u (inl (c, f)) = met_off a u f
  search_off a u (inr (c, inl (d, e))) = off _ e refl
  search_off a u (inr (c, inr (d, e))) = searched_off a u.node.next e

  cursor_off : {P : Type 0} (a : Seek) (u : View) → follows_cursor a u n → P
  cursor_off {P} a u (inl (c, e)) = off _ e refl
  cursor_off {P} a u (inr (c, f)) = go u.node.merging_child f
    where
      go : (child : Option ℕ) → follows_cursor_not_merging child a u n → P
      go None f = search_off a u f
      go (Some child) r = resumed_off u child r.before r.is

  -- the page that was read is the leaf, and stands as it was read
  page_at : (s : Store) (pid : ℕ) (found : View → Sequel → Type 0) → ((u : View) → found u n → (u, 0) ≡ v) → FollowsPage s pid found n → IsLeafNow s v
  page_at s pid found at f = elim f.is [
    | inl r ↦ go ((now s).pages pid) refl r.1
    | inr r ↦ off _ r.1 refl
  ]
    where
      go : (o : Option Page) → (now s).pages pid ≡ o → MatchOption (view_of pid o) (n ≡ sequel.Go stage.Root) (λ u. found u n) → IsLeafNow s v
      go None live e = off _ e refl
      go (Some g) live f = subst (λ (x : View × ℕ). IsLeafNow s x) (at _ f) (live, refl)

  root_at : (j : Course) (s : Store) (root : Option ℕ) → follows_root j s root n → IsLeafNow s v
  root_at j s None e = off _ e refl
  root_at j s (Some root) f = page_at s root _ (λ u. read_at j u _) f

  -- the change of the call leads to no change,
  act_off : {P : Type 0} (j : Course) (old new : Store) (u : View) → LinksChange j old new u n → P
  act_off {P} j old new u f = go (link_of (decision_at f.operator j.call u.node.content).effect (key_of j.call)) f.is
    where
      go : (link : Option Link) → MatchOption link ((new ≡ old) × (n ≡ sequel.Go stage.Root)) (λ l. TakesWay (after_link l) u.pid u.version old new n (λ _. sequel.Decided (decision_at f.operator j.call u.node.content).reply) (λ _. sequel.Go stage.Root)) → P
      go None e = off _ e.1 refl
      go (Some l) (inl k) = off _ k.2 refl
      go (Some l) (inr k) = off _ k.2 refl

  -- and what leads to one is a read of the leaf
  unchanged_at : (j : Course) (old new : Store) (a : Stage) → follows_as j old a n new → (IsReading a × (new ≡ old)) ⊎ ((u : View) × (a ≡ stage.Act u)) → (new ≡ old) × IsLeafNow new v
  unchanged_at j old new a f (inr b) = elim (subst (λ s. follows_as j old s n new) b.1 f) [
    | inl c ↦ act_off j old new b.0 c
    | inr r ↦ off _ r.1 refl
  ]
  unchanged_at j old new stage.Root f (inl r) = (r.1, subst (λ (s : Store). IsLeafNow s v) (sym r.1) (root_at j old ((now old).roots j.tree.name) f.1))
  unchanged_at j old new (stage.Walk a) f (inl r) = (r.1, subst (λ (s : Store). IsLeafNow s v) (sym r.1) (page_at old a.cursor _ (λ u. read_at j u _) f.1))
  unchanged_at j old new (stage.Child a) f (inl r) = (r.1, subst (λ (s : Store). IsLeafNow s v) (sym r.1) (page_at old a.child _ (λ u. child_off a u) f.1))
  unchanged_at j old new (stage.Seek a) f (inl r) = (r.1, subst (λ (s : Store). IsLeafNow s v) (sym r.1) (page_at old a.cursor _ (λ u. cursor_off a u) f.1))
  unchanged_at j old new other f (inl r) = absurd r.0

abbrev LeafLaw : Type 0
LeafLaw = (j : Course) (old new : Store) (a b : Stage) (v : View × ℕ) → acting (sequel.Go b) ≡ Some v → Follows j old a (sequel.Go b) new → (new ≡ old) × IsLeafNow new v

-- a call that comes to a leaf comes to it by the read of the leaf, which stands as it was read
leaf_law : LeafLaw
leaf_law j old new a b v is f = unchanged_at v (sequel.Go b) is j old new a f.is (reads_or_acts acting v (sequel.Go b) is (λ e. refl) plainly j old new a f.is)
  where
    plainly : (c : Stage) → HasNoLeaf c → acting (sequel.Go c) ≡ None
    plainly (stage.Act u) plain = absurd plain
    plainly (stage.Give u) plain = absurd plain
    plainly other plain = refl

-- so it is of a scan that comes to the pairs that it gives
pub give_law : (j : Course) (old new : Store) (a : Stage) (b : Giving) → Follows j old a (sequel.Go (stage.Give b)) new → (new ≡ old) × (IsUnchanged (now new) b.leaf × (b.given ≡ 0))
give_law j old new a b f = leaf_law j old new a (stage.Give b) (b.leaf, b.given) refl f
