-- A call on a key never comes to give the pairs of a leaf: no line of the tables of what comes next leads it there.
use Rattle.std.proofs.Common.{◌≡◌, ℕ, Bool, Option, None, Some, Result, Ok, Err, MatchOption, sym, subst, inl, inr}
use Rattle.sled_nodes.proofs.Basics.{some_none}
use Rattle.sled_nodes.specs.Ranges.{Range}
use Rattle.sled_nodes.specs.declared.error.Error.TheVariants.{NoMemory}
use Rattle.sled_nodes.specs.declared.link.Link.{Link}
use Rattle.sled_nodes.specs.declared.node.Data.{Data}
use Rattle.sled_nodes.specs.declared.node.Data.TheVariants.{Leaf, Index}
use Rattle.sled_nodes.specs.declared.node.Node.{Node}
use Rattle.sled_nodes.specs.Node.{after_link}
use Rattle.sled_store.specs.Store.{Store, now, view_of}
use Rattle.sled_store.specs.declared.page.View.{View}
use Rattle.sled_model.specs.Answer.{key_of}
use Rattle.sled_model.specs.State.{IsOnKey, range_of}
use Rattle.sled_model.specs.declared.reply.Reply.{Reply}
use Rattle.tree_laws.specs.Stages.{parent_of}
use Rattle.tree_laws.specs.declared.flight.InstallLeft.{InstallLeft}
use Rattle.tree_laws.specs.declared.flight.Merge.{Merge}
use Rattle.tree_laws.specs.declared.flight.Posting.{Posting}
use Rattle.tree_laws.specs.declared.flight.Posting.TheVariants as posting
use Rattle.tree_laws.specs.declared.flight.Reached.{Reached}
use Rattle.tree_laws.specs.declared.flight.Reached.TheVariants as reached
use Rattle.tree_laws.specs.declared.flight.Receive.{Receive}
use Rattle.tree_laws.specs.declared.flight.Seek.{Seek}
use Rattle.tree_laws.specs.declared.flight.Stage.{Stage}
use Rattle.tree_laws.specs.declared.flight.Stage.TheVariants as stage
use Rattle.tree_laws.specs.declared.flight.SwapRoot.{SwapRoot}
use Rattle.sled_tree.specs.Change.{decision_at, link_of, reply_at}
use Rattle.sled_tree.specs.Course.{Course}
use Rattle.sled_tree.specs.Follows.{Where, OrNoMemory, OrRefused, TakesWay, FollowsPage, Follows, resumed, ResumesMerge, begun, BeginsMerge, onward, down, done_at, follows_leaf_as, follows_content, follows_here, follows_open, follows_not_merging, follows_read, follows_child_not_merging, follows_child, searched, follows_search, follows_cursor_not_merging, follows_cursor, follows_root, after_install_left, after_swap_root, read_again, sought_again, follows_as}
use Rattle.sled_tree.specs.Stages.{IsOnItsWay}
use Rattle.sled_tree.specs.declared.flight.Sequel.{Sequel}
use Rattle.sled_tree.specs.declared.flight.Sequel.TheVariants.{Go, Decided, Refused}

-- where the call goes on, it does at a stage on its way
abbrev keeps_way : Sequel → Type 0
keeps_way (Go s) = IsOnItsWay s
keeps_way (Decided reply) = Unit {0}
keeps_way (Refused e) = Unit {0}

-- .. with an answer and without one
either_way : {A : Type 0} (next : Option A → Sequel) → keeps_way (next None) → ((x : A) → keeps_way (next (Some x))) → (o : Option A) → keeps_way (next o)
either_way next without with None = without
either_way next without with (Some x) = with x

resumed_way : (v : View) (child : ℕ) (before : Option ℕ) → keeps_way (resumed v child before)
resumed_way v child = either_way (resumed v child) tt (λ p. tt)

begun_way : (v : View) (child : ℕ) (before : Option ℕ) → keeps_way (begun v child before)
begun_way v child = either_way (begun v child) tt (λ p. tt)

onward_way : (v : View) (beside : Option ℕ) (parent : Option View) → keeps_way (onward v beside parent)
onward_way v None parent = tt
onward_way v (Some q) None = tt
onward_way v (Some q) (Some parent) = tt

down_way : (v : View) (found : Option (ℕ × Bool)) → keeps_way (down v found)
down_way v = either_way (down v) tt (λ c. tt)

done_way : (v : View) (reply : Option Reply) → keeps_way (done_at v reply)
done_way v = either_way (done_at v) tt (λ r. tt)

searched_way : (a : Seek) (beside : Option ℕ) → keeps_way (searched a beside)
searched_way a = either_way (searched a) tt (λ q. tt)

installed_way : (a : InstallLeft) (p : Posting) → keeps_way (after_install_left a p)
installed_way a posting.Root = tt
installed_way a (posting.Parent parent) = tt
installed_way a posting.Nowhere = tt

swapped_way : (a : SwapRoot) (r : Result (Unit {0}) (Option ℕ)) → keeps_way (after_swap_root a r)
swapped_way a (Ok done) = tt
swapped_way a (Err present) = tt

read_way : (a : Merge) (present : Option ℕ) → keeps_way (read_again a present)
read_way a = either_way (read_again a) tt (λ v. tt)

sought_way : (a : Receive) (present : Option ℕ) → keeps_way (sought_again a present)
sought_way a = either_way (sought_again a) tt (λ v. tt)

module _ (n : Sequel) where
  it_is : (m : Sequel) → keeps_way m → n ≡ m → keeps_way n
  it_is m way e = subst keeps_way (sym e) way

  -- both of a line and of those below it
  each : {condition here below : Type 0} → (here → keeps_way n) → (below → keeps_way n) → Where condition here below → keeps_way n
  each first rest (inl t) = first t.1
  each first rest (inr t) = rest t.1

  has_memory : (m : Sequel) → keeps_way m → OrNoMemory n m → keeps_way n
  has_memory m way (inl e) = it_is m way e
  has_memory m way (inr e) = it_is (Refused NoMemory) tt e

  acted : (a b : Store) {comes : Type 0} → (comes → keeps_way n) → OrRefused a b n comes → keeps_way n
  acted a b way (inl t) = way t
  acted a b way (inr t) = it_is (Refused t.0) tt t.1

  changed : (change : Node → Node) (pid version : ℕ) (a b : Store) (took : ℕ → Sequel) (late : Option ℕ → Sequel) → ((given : ℕ) → keeps_way (took given)) → ((present : Option ℕ) → keeps_way (late present))
      → TakesWay change pid version a b n took late → keeps_way n
  changed change pid version a b took late first second (inl t) = it_is (took t.0) (first t.0) t.2
  changed change pid version a b took late first second (inr t) = it_is (late t.0) (second t.0) t.2

  of_view : (found : View → Sequel → Type 0) → ((v : View) → found v n → keeps_way n) → (o : Option View) → MatchOption o (n ≡ Go stage.Root) (λ v. found v n) → keeps_way n
  of_view found way None e = it_is (Go stage.Root) tt e
  of_view found way (Some v) f = way v f

  of_page : (s : Store) (pid : ℕ) (found : View → Sequel → Type 0) → ((v : View) → found v n → keeps_way n) → FollowsPage s pid found n → keeps_way n
  of_page s pid found way f = elim f.is [
    | inl t ↦ of_view found way (view_of pid ((now s).pages pid)) t.1
    | inr t ↦ it_is (Refused t.0) tt t.1
  ]

  resumes : (v : View) (child : ℕ) → ResumesMerge v child n → keeps_way n
  resumes v child r = it_is (resumed v child r.before) (resumed_way v child r.before) r.is

  begins : (v : View) (child : ℕ) → BeginsMerge v child n → keeps_way n
  begins v child r = it_is (begun v child r.before) (begun_way v child r.before) r.is

  -- a walk
  module _ (j : Course) (key : IsOnKey j.call) where
    of_leaf : (o : Option Range) → o ≡ None → (v : View) → follows_leaf_as o j v n → keeps_way n
    of_leaf None none v f = has_memory (done_at v (reply_at j.call v.node.content)) (done_way v (reply_at j.call v.node.content)) f
    of_leaf (Some r) none v f = some_none none

    of_content : (d : Data) (v : View) → follows_content d j v n → keeps_way n
    of_content (Index es) v f = it_is (down v f.found) (down_way v f.found) f.is
    of_content (Leaf es) v f = of_leaf (range_of j.call) key v f

    of_here : (v : View) (by : Reached) → follows_here j v by n → keeps_way n
    of_here v reached.Root f = of_content v.node.content v f
    of_here v (reached.FirstPointer parent) f = of_content v.node.content v f
    of_here v (reached.LaterPointer parent) f = each (begins parent v.pid) (of_content v.node.content v) f
    of_here v (reached.Next parent) f = has_memory (Go (stage.Post (record { parent = parent; at = v.node.lo; pid = v.pid }))) tt f

    of_open : (v : View) (by : Reached) → follows_open j v by n → keeps_way n
    of_open v by f =
        each (it_is _ tt) (each (has_memory _ (onward_way v v.node.next (parent_of by))) (each (of_here v by) (it_is (Go stage.Root) tt))) f

    of_walk : (v : View) (by : Reached) (o : Option ℕ) → follows_not_merging o j v by n → keeps_way n
    of_walk v by (Some child) f = resumes v child f
    of_walk v by None f = of_open v by f

    of_read : (v : View) (by : Reached) → follows_read j v by n → keeps_way n
    of_read v by f = each (it_is (Go stage.Root) tt) (of_walk v by v.node.merging_child) f

    of_root : (s : Store) (root : Option ℕ) → follows_root j s root n → keeps_way n
    of_root s None f = it_is (Go stage.Root) tt f
    of_root s (Some p) f = of_page s p (λ v. follows_read j v reached.Root) (λ v. of_read v reached.Root) f

  -- a change
  of_link : (a b : Store) (v : View) (reply : Reply) (o : Option Link)
      → MatchOption o ((b ≡ a) × (n ≡ Go stage.Root)) (λ link. TakesWay (after_link link) v.pid v.version a b n (λ _. Decided reply) (λ _. Go stage.Root)) → keeps_way n
  of_link a b v reply None t = it_is (Go stage.Root) tt t.1
  of_link a b v reply (Some link) t = changed (after_link link) v.pid v.version a b (λ _. Decided reply) (λ _. Go stage.Root) (λ g. tt) (λ p. tt) t

  -- a merge
  of_child : (a : Merge) (v : View) (o : Option ℕ) → follows_child_not_merging o a v n → keeps_way n
  of_child a v (Some child) f = resumes v child f
  of_child a v None f = it_is _ tt f

  of_search : (a : Seek) (v : View) → follows_search a v n → keeps_way n
  of_search a v f = each (each (it_is _ tt) (it_is _ tt)) (each (it_is _ tt) (it_is (searched a v.node.next) (searched_way a v.node.next))) f

  of_cursor : (a : Seek) (v : View) (o : Option ℕ) → follows_cursor_not_merging o a v n → keeps_way n
  of_cursor a v (Some child) f = resumes v child f
  of_cursor a v None f = of_search a v f

  -- a step
  of_step : (j : Course) → IsOnKey j.call → (a b : Store) (s : Stage) → follows_as j a s n b → keeps_way n
  of_step j key a b stage.Root f = of_root j key a ((now a).roots j.tree.name) f.1
  of_step j key a b (stage.Walk w) f = of_page a w.cursor (λ v. follows_read j v w.reached) (λ v. of_read j key v w.reached) f.1
  of_step j key a b (stage.Act v) f = acted a b (λ l. of_link a b v (decision_at l.operator j.call v.node.content).reply (link_of (decision_at l.operator j.call v.node.content).effect (key_of j.call)) l.is) f
  of_step j key a b (stage.Give g) f = absurd f
  of_step j key a b (stage.Split w) f = acted a b (each (λ m. it_is _ tt m.is) (λ t. it_is (Go stage.Root) tt t.1)) f
  of_step j key a b (stage.InstallLeft w) f = acted a b (changed _ _ _ a b _ _ (λ g. installed_way w w.posting) (λ p. tt)) f
  of_step j key a b (stage.Post w) f = acted a b (each (changed _ _ _ a b _ _ (λ g. tt) (λ p. tt)) (λ t. it_is (Go stage.Root) tt t.1)) f
  of_step j key a b (stage.Hoist w) f = acted a b (λ m. it_is _ tt m.is) f
  of_step j key a b (stage.SwapRoot w) f = acted a b (λ m. it_is (after_swap_root w m.answer) (swapped_way w m.answer) m.is) f
  of_step j key a b (stage.Free w) f = acted a b (λ m. it_is (Go stage.Root) tt m.is) f
  of_step j key a b (stage.Intend w) f = acted a b (changed _ _ _ a b _ _ (λ g. tt) (λ p. tt)) f
  of_step j key a b (stage.Child w) f = of_page a w.child (follows_child w) (λ v. each (it_is _ tt) (of_child w v v.node.merging_child)) f.1
  of_step j key a b (stage.Cap w) f = acted a b (changed _ _ _ a b _ _ (λ g. tt) (read_way w.merge)) f
  of_step j key a b (stage.Seek w) f = of_page a w.cursor (follows_cursor w) (λ v. each (it_is (Go stage.Root) tt) (of_cursor w v v.node.merging_child)) f.1
  of_step j key a b (stage.Receive w) f = acted a b (changed _ _ _ a b _ _ (λ g. tt) (sought_way w)) f
  of_step j key a b (stage.Confirm w) f = acted a b (changed _ _ _ a b _ _ (λ g. tt) (λ p. tt)) f

-- A call on a key that goes on does so on its way
pub stays_on_way : (j : Course) → IsOnKey j.call → (a b : Store) (s g : Stage) → Follows j a s (Go g) b → IsOnItsWay g
stays_on_way j key a b s g f = of_step (Go g) j key a b s f.is
