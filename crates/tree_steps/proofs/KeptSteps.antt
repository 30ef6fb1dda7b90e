-- Steps that keep copies of a reply: where a page that was read decides a call, the call may be refused for want of memory too.
use Rattle.std.proofs.Common.{◌≡◌, ℕ, Bool, false, Option, Some, None, is_none, MatchOption, Result, Ok, Err, sym, refl, ap, ◌∙◌, subst, inl, inr}
use Rattle.sled_nodes.proofs.Basics.{none_some, true_false}
use Rattle.sled_nodes.specs.Order.{Key}
use Rattle.sled_nodes.specs.Ranges.{Range}
use Rattle.sled_nodes.specs.declared.error.Error.{Error}
use Rattle.sled_nodes.specs.declared.error.Error.TheVariants.{NoMemory}
use Rattle.sled_nodes.specs.declared.link.Link.{Link}
use Rattle.sled_nodes.specs.declared.node.Data.{Data}
use Rattle.sled_nodes.specs.declared.node.Data.TheVariants.{Leaf, Index}
use Rattle.sled_store.specs.Store.{Store, now, view_of}
use Rattle.sled_store.specs.declared.page.View.{View}
use Rattle.sled_model.specs.Answer.{key_of}
use Rattle.sled_model.specs.Maps.{Merge as Operator}
use Rattle.sled_model.specs.State.{IsOnKey, range_of}
use Rattle.sled_model.specs.declared.call.Call.{Call}
use Rattle.sled_model.specs.declared.call.Call.TheVariants as call
use Rattle.sled_model.specs.declared.reply.Reply.{Reply}
use Rattle.sled_queues.specs.Values.{QueuesValue, queue_at}
use Rattle.sled_queues.specs.Queues.{IsCalm}
use Rattle.tree_laws.specs.declared.flight.Stage.{Stage}
use Rattle.tree_laws.specs.declared.flight.Stage.TheVariants as stage
use Rattle.tree_laws.specs.declared.flight.Reached.{Reached}
use Rattle.tree_laws.specs.declared.flight.Reached.TheVariants as reached
use Rattle.tree_laws.specs.declared.flight.Posting.{Posting}
use Rattle.tree_laws.specs.declared.flight.Posting.TheVariants as posting
use Rattle.tree_laws.specs.declared.flight.InstallLeft.{InstallLeft}
use Rattle.tree_laws.specs.declared.flight.SwapRoot.{SwapRoot}
use Rattle.tree_laws.specs.declared.flight.Receive.{Receive}
use Rattle.tree_laws.specs.declared.flight.Merge.{Merge}
use Rattle.tree_laws.specs.declared.flight.Seek.{Seek}
use Rattle.sled_tree.specs.Change.{link_of, decision_at}
use Rattle.sled_tree.specs.Course.{Course, course_of}
use Rattle.sled_tree.specs.Follows.{resumed, begun, down, follows_leaf_as, follows_content, follows_here, follows_open, follows_not_merging, follows_read, follows_child, follows_child_not_merging, searched, follows_met, follows_search, follows_cursor, follows_cursor_not_merging, FollowsPage, follows_root, TakesWay, after_install_left, after_swap_root, read_again, sought_again, follows_as}
use Rattle.sled_tree.specs.theory.Linking.{IsAtLink, StepsBy, LinksPrepared}
use Rattle.sled_tree.specs.theory.StageAction.{StageActionBy, Only}
use Rattle.sled_tree.specs.declared.act.Change.{Change}
use Rattle.sled_tree.specs.declared.flight.InFlight.{InFlight}
use Rattle.sled_tree.specs.declared.flight.Sequel.{Sequel}
use Rattle.sled_tree.specs.declared.flight.Sequel.TheVariants.{Go, Decided, Refused}
use Rattle.sled_tree.specs.declared.flight.Went.{Went}
use Rattle.sled_tree.specs.declared.flight.Went.TheVariants as went
use Rattle.sled_tree.proofs.Facts.{unable, by_these}
use Rattle.tree_scans.specs.Scans.{ScanStep, Gives, Ends, GoesOn, Walks, Lacks, behind}
use Rattle.tree_steps.specs.theory.Outcomes.{ComesOut, is_light}
use Rattle.tree_steps.specs.theory.Watched.{TellsPrepared, StepsOver, steps_over_as, links_watched_as}
use Rattle.tree_steps.proofs.Watching.{short, alone, same_queues}

-- ---- the tables: a line that decides is that of a leaf, and there the call may be refused

module _ (reply : Reply) where
  goes_not : {P : Type 0} (a : Stage) → Decided reply ≡ Go a → P
  goes_not a e = cc

  refuses_not : {P : Type 0} (e : Error) → Decided reply ≡ Refused e → P
  refuses_not e d = cc

  resumes_not : {P : Type 0} (v : View) (child : ℕ) (before : Option ℕ) → Decided reply ≡ resumed v child before → P
  resumes_not v child None e = goes_not _ e
  resumes_not v child (Some before) e = goes_not _ e

  begins_not : {P : Type 0} (v : View) (child : ℕ) (before : Option ℕ) → Decided reply ≡ begun v child before → P
  begins_not v child None e = goes_not _ e
  begins_not v child (Some before) e = goes_not _ e

  downs_not : {P : Type 0} (v : View) (found : Option (ℕ × Bool)) → Decided reply ≡ down v found → P
  downs_not v None e = goes_not _ e
  downs_not v (Some c) e = goes_not _ e

  at_leaf : (o : Option Range) (j : Course) (v : View) → follows_leaf_as o j v (Decided reply) → follows_leaf_as o j v (Refused NoMemory)
  at_leaf None j v f = inr refl
  at_leaf (Some range) j v f = goes_not _ f

  at_content : (d : Data) (j : Course) (v : View) → follows_content d j v (Decided reply) → follows_content d j v (Refused NoMemory)
  at_content (Index es) j v f = downs_not v f.found f.is
  at_content (Leaf es) j v f = at_leaf (range_of j.call) j v f

  at_page : (j : Course) (v : View) (by : Reached) → follows_here j v by (Decided reply) → follows_here j v by (Refused NoMemory)
  at_page j v reached.Root f = at_content v.node.content j v f
  at_page j v (reached.FirstPointer parent) f = at_content v.node.content j v f
  at_page j v (reached.LaterPointer parent) (inl t) = begins_not parent v.pid t.1.before t.1.is
  at_page j v (reached.LaterPointer parent) (inr t) = inr (t.0, at_content v.node.content j v t.1)
  at_page j v (reached.Next parent) f = inr refl

  at_open : (j : Course) (v : View) (by : Reached) → follows_open j v by (Decided reply) → follows_open j v by (Refused NoMemory)
  at_open j v by (inl t) = goes_not _ t.1
  at_open j v by (inr (short, inl t)) = inr (short, inl (t.0, inr refl))
  at_open j v by (inr (short, inr (within, inl t))) = inr (short, inr (within, inl (t.0, at_page j v by t.1)))
  at_open j v by (inr (short, inr (within, inr t))) = goes_not _ t.1

  at_unmerging : (o : Option ℕ) (j : Course) (v : View) (by : Reached) → follows_not_merging o j v by (Decided reply) → follows_not_merging o j v by (Refused NoMemory)
  at_unmerging None j v by f = at_open j v by f
  at_unmerging (Some child) j v by f = resumes_not v child f.before f.is

  at_read : (j : Course) (v : View) (by : Reached) → follows_read j v by (Decided reply) → follows_read j v by (Refused NoMemory)
  at_read j v by (inl t) = goes_not _ t.1
  at_read j v by (inr t) = inr (t.0, at_unmerging v.node.merging_child j v by t.1)

  at_child : (merge : Merge) (v : View) → follows_child merge v (Decided reply) → ⊥
  at_child merge v (inl t) = goes_not _ t.1
  at_child merge v (inr t) = go v.node.merging_child t.1
    where
      go : (o : Option ℕ) → follows_child_not_merging o merge v (Decided reply) → ⊥
      go None e = goes_not _ e
      go (Some child) f = resumes_not v child f.before f.is

  at_found : (seek : Seek) (o : Option ℕ) → Decided reply ≡ searched seek o → ⊥
  at_found seek None e = goes_not _ e
  at_found seek (Some q) e = goes_not _ e

  at_met : (seek : Seek) (v : View) → follows_met seek v (Decided reply) → ⊥
  at_met seek v (inl t) = goes_not _ t.1
  at_met seek v (inr t) = goes_not _ t.1

  at_search : (seek : Seek) (v : View) → follows_search seek v (Decided reply) → ⊥
  at_search seek v (inl t) = at_met seek v t.1
  at_search seek v (inr (off, inl t)) = goes_not _ t.1
  at_search seek v (inr (off, inr t)) = at_found seek v.node.next t.1

  at_cursor : (seek : Seek) (v : View) → follows_cursor seek v (Decided reply) → ⊥
  at_cursor seek v (inl t) = goes_not _ t.1
  at_cursor seek v (inr t) = go v.node.merging_child t.1
    where
      go : (o : Option ℕ) → follows_cursor_not_merging o seek v (Decided reply) → ⊥
      go None f = at_search seek v f
      go (Some child) f = resumes_not v child f.before f.is

  pages : (s : Store) (pid : ℕ) (found : View → Sequel → Type 0) → ((v : View) → found v (Decided reply) → found v (Refused NoMemory)) → FollowsPage s pid found (Decided reply) → FollowsPage s pid found (Refused NoMemory)
  pages s pid found turned f = record {
    is = elim f.is [
      | inl t ↦ inl (t.0, go (view_of pid ((now s).pages pid)) t.1)
      | inr t ↦ refuses_not t.0 t.1
    ];
  }
    where
      go : (o : Option View) → MatchOption o (Decided reply ≡ Go stage.Root) (λ v. found v (Decided reply)) → MatchOption o (Refused NoMemory ≡ Go stage.Root) (λ v. found v (Refused NoMemory))
      go None e = goes_not _ e
      go (Some v) f = turned v f

  at_root : (j : Course) (s : Store) (o : Option ℕ) → follows_root j s o (Decided reply) → follows_root j s o (Refused NoMemory)
  at_root j s None e = goes_not _ e
  at_root j s (Some root) f = pages s root (λ v. follows_read j v reached.Root) (λ v. at_read j v reached.Root) f

  -- no other action decides
  takes_not : {P : Type 0} (change : _) (pid version : ℕ) (old new : Store) (took : ℕ → Sequel) (late : Option ℕ → Sequel) → ((n : ℕ) → Decided reply ≡ took n → ⊥) → ((o : Option ℕ) → Decided reply ≡ late o → ⊥)
      → TakesWay change pid version old new (Decided reply) took late → P
  takes_not change pid version old new took late a b (inl t) = absurd (a t.0 t.2)
  takes_not change pid version old new took late a b (inr t) = absurd (b t.0 t.2)

  installs_not : (a : InstallLeft) (p : Posting) → Decided reply ≡ after_install_left a p → ⊥
  installs_not a (posting.Parent parent) e = goes_not _ e
  installs_not a posting.Root e = goes_not _ e
  installs_not a posting.Nowhere e = goes_not _ e

  swaps_not : (a : SwapRoot) (r : Result (Unit {0}) (Option ℕ)) → Decided reply ≡ after_swap_root a r → ⊥
  swaps_not a (Ok done) e = goes_not _ e
  swaps_not a (Err present) e = goes_not _ e

  reads_not : (a : Merge) (o : Option ℕ) → Decided reply ≡ read_again a o → ⊥
  reads_not a None e = goes_not _ e
  reads_not a (Some present) e = goes_not _ e

  seeks_not : (a : Receive) (o : Option ℕ) → Decided reply ≡ sought_again a o → ⊥
  seeks_not a None e = goes_not _ e
  seeks_not a (Some present) e = goes_not _ e

  -- a call that links nothing is decided by a read
  module _ (j : Course) (old new : Store) where
    links_not : {P : Type 0} (operator : Option Operator) (v : View) (o : Option Link) → o ≡ None
        → MatchOption o ((new ≡ old) × (Decided reply ≡ Go stage.Root)) (λ link. TakesWay (Rattle.sled_nodes.specs.Node.after_link link) v.pid v.version old new (Decided reply) (λ _. Decided (decision_at operator j.call v.node.content).reply) (λ _. Go stage.Root)) → P
    links_not operator v None none f = goes_not _ f.1
    links_not operator v (Some link) none f = none_some (sym none)

    pub turned : (a : Stage) → ((v : View) → a ≡ stage.Act v → (operator : Option Operator) → link_of (decision_at operator j.call v.node.content).effect (key_of j.call) ≡ None)
        → follows_as j old a (Decided reply) new → (new ≡ old) × follows_as j old a (Refused NoMemory) new
    turned stage.Root none f = (f.0, (f.0, at_root j old ((now old).roots j.tree.name) f.1))
    turned (stage.Walk a) none f = (f.0, (f.0, pages old a.cursor (λ v. follows_read j v a.reached) (λ v. at_read j v a.reached) f.1))
    turned (stage.Act v) none (inl l) = links_not l.operator v (link_of (decision_at l.operator j.call v.node.content).effect (key_of j.call)) (none v refl l.operator) l.is
    turned (stage.Give a) none f = absurd f
    turned (stage.Split a) none (inl (inl t)) = goes_not _ t.1.is
    turned (stage.Split a) none (inl (inr t)) = goes_not _ t.1.1
    turned (stage.InstallLeft a) none (inl f) = takes_not _ _ _ _ _ _ _ (λ n. installs_not a a.posting) (λ o. goes_not _) f
    turned (stage.Post a) none (inl (inl t)) = takes_not _ _ _ _ _ _ _ (λ n. goes_not _) (λ o. goes_not _) t.1
    turned (stage.Post a) none (inl (inr t)) = goes_not _ t.1.1
    turned (stage.Hoist a) none (inl f) = goes_not _ f.is
    turned (stage.SwapRoot a) none (inl f) = absurd (swaps_not a f.answer f.is)
    turned (stage.Free a) none (inl f) = goes_not _ f.is
    turned (stage.Intend a) none (inl f) = takes_not _ _ _ _ _ _ _ (λ n. goes_not _) (λ o. goes_not _) f
    turned (stage.Child a) none f = (f.0, (f.0, pages old a.child (λ v. follows_child a v) (λ v c. absurd (at_child a v c)) f.1))
    turned (stage.Cap a) none (inl f) = takes_not _ _ _ _ _ _ _ (λ n. goes_not _) (reads_not a.merge) f
    turned (stage.Seek a) none f = (f.0, (f.0, pages old a.cursor (λ v. follows_cursor a v) (λ v c. absurd (at_cursor a v c)) f.1))
    turned (stage.Receive a) none (inl f) = takes_not _ _ _ _ _ _ _ (λ n. goes_not _) (seeks_not a) f
    turned (stage.Confirm a) none (inl f) = takes_not _ _ _ _ _ _ _ (λ n. goes_not _) (λ o. goes_not _) f
    turned a none (inr t) = refuses_not t.0 t.1

-- ---- steps

module _ (operator : Option Operator) (a b : Store) (f g : InFlight) where
  pub lacks : (reply : Reply) → ((v : View) → f.stage ≡ stage.Act v → (o : Option Operator) → link_of (decision_at o f.job.call v.node.content).effect (key_of f.job.call) ≡ None)
      → StepsBy operator a f (went.Decided reply) b g → StepsBy operator a f (went.Refused NoMemory) b g
  lacks reply none steps =
      let t = turned reply (course_of f) a b f.stage none steps.follows.is.is in
      record {
        advances = record { is = subst (λ s. StageActionBy (Only operator) (course_of f) a f.stage (Refused NoMemory) s) (sym t.0) (by_these (course_of f) a a f.stage (Refused NoMemory) (unable (course_of f) a f.stage NoMemory refl)) };
        passes = record { is = tt };
        follows = record { is = record { is = t.1 } };
      }

  -- a call on a key that links nothing
  pub kept_alone : IsOnKey f.job.call → (queues : QueuesValue) → IsCalm (queue_at queues) → ((v : View) → f.stage ≡ stage.Act v → ⊥) → (w kept : Went) → StepsBy operator a f w b g → ComesOut w kept → StepsOver operator a queues f kept b queues g
  kept_alone on_key queues calm off w kept steps out = record {
    is = subst (λ o. steps_over_as o operator a queues f kept b queues g) (sym on_key) (alone operator a b f g queues calm (λ v here. absurd (off v here)) kept (kept_steps out));
  }
    where
      kept_steps : ComesOut w kept → StepsBy operator a f kept b g
      kept_steps (inl e) = subst (λ z. StepsBy operator a f z b g) (sym e) steps
      kept_steps (inr t) = subst (λ z. StepsBy operator a f z b g) (sym t.3) (lacks t.0 (λ v here. absurd (off v here)) (subst (λ z. StepsBy operator a f z b g) t.1 steps))

-- a scan links nothing
scan_links : (c : Call) (r : Range) → range_of c ≡ Some r → (o : Option Operator) (d : Data) → link_of (decision_at o c d).effect (key_of c) ≡ None
scan_links (call.Scan lo hi back) r is o d = refl
scan_links (call.Get k) r is o d = none_some is
scan_links (call.Insert k v) r is o d = none_some is
scan_links (call.Remove k) r is o d = none_some is
scan_links (call.CompareAndSwap k old new) r is o d = none_some is
scan_links (call.Merge k bytes) r is o d = none_some is

yields_not : {P : Type 0} {key value : Key} {reply : Reply} → went.Yielded key value ≡ went.Decided reply → P
yields_not e = cc

same_reply : {one other : Reply} → went.Decided one ≡ went.Decided other → other ≡ one
same_reply e = cc

root_not : {P : Type 0} {v : View} → stage.Root ≡ stage.Act v → P
root_not e = cc

module _ (a : Store) (f : InFlight) (r : Range) (is : range_of f.job.call ≡ Some r) (reply : Reply) (heavy : is_light reply ≡ false) where
  scan_lacks : {w : Went} {b : Store} {g : InFlight} → ScanStep (StepsBy None) a f w b g → w ≡ went.Decided reply → ScanStep (StepsBy None) a f (went.Refused NoMemory) b g
  scan_lacks (Gives given key value more here waits) decided = yields_not decided
  scan_lacks (Ends g between waits done) decided = true_false (sym (ap is_light (same_reply decided)) ∙ heavy)
  scan_lacks (Lacks given g here) decided = Lacks given g here
  scan_lacks (GoesOn given range w b g here scan waits more steps) decided =
      GoesOn given range (went.Refused NoMemory) b g here scan waits more (lacks None a b (behind f given range) g reply (λ v at o. root_not at) (subst (λ z. StepsBy None a (behind f given range) z b g) decided steps))
  scan_lacks (Walks w b g way begun steps) decided =
      Walks (went.Refused NoMemory) b g way begun (lacks None a b f g reply (λ v at o. scan_links f.job.call r is o v.node.content) (subst (λ z. StepsBy None a f z b g) decided steps))

pub scan_kept : (operator : Option Operator) (a b : Store) (f g : InFlight) → is_none (range_of f.job.call) ≡ false → (queues : QueuesValue) (w kept : Went) → ScanStep (StepsBy None) a f w b g → ComesOut w kept → StepsOver operator a queues f kept b queues g
scan_kept operator a b f g scan queues w kept step out = record { is = over (range_of f.job.call) refl }
  where
    over : (o : Option Range) → range_of f.job.call ≡ o → steps_over_as o operator a queues f kept b queues g
    over None is = true_false (sym (ap is_none is) ∙ scan)
    over (Some r) is = (
      elim out [
        | inl e ↦ subst (λ z. ScanStep (StepsBy None) a f z b g) (sym e) step
        | inr t ↦ subst (λ z. ScanStep (StepsBy None) a f z b g) (sym t.3) (scan_lacks a f r is t.0 t.2 step t.1)
      ],
      same_queues queues queues refl,
    )

-- ---- a change that was prepared

module _ (change : Change) (a : Store) (f : InFlight) where
  pub told_short : IsAtLink f.stage → (e : Error) → e ≡ NoMemory → (old new : QueuesValue) → new ≡ old → TellsPrepared change a old f (went.Refused e) a new f
  told_short at_link e none old new same = record { is = λ operator p. short operator a f at_link e none old new same; replies = tt }

  pub told_alone : (b : Store) (g : InFlight) (queues : QueuesValue) → IsCalm (queue_at queues) → links_watched_as queues f false → (w : Went) → LinksPrepared change a f w b g → TellsPrepared change a queues f w b queues g
  told_alone b g queues calm off w links = record { is = λ operator p. alone operator a b f g queues calm off w (links.is operator p); replies = links.replies }
