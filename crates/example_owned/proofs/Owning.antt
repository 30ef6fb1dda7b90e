-- What an owner makes, call after call, and what a crash leaves of it.
use Rattle.std.proofs.Common.{◌≡◌, ◌∙◌, ℕ, Bool, true, false, List, [], ◌∷◌, ◌++◌, append-nil, map, Option, Some, Result, Ok, Err, is_ok, IfOk, IfErr, OnOk, sym, refl, ap, subst}
use Rattle.std.specs.FinMap.Entries.{put}
use denote.Ref.{MutBor}
use Rattle.sled_nodes.proofs.Basics.{false_true}
use Rattle.sled_nodes.specs.Order.{Key, key_cmp}
use Rattle.sled_nodes.specs.declared.error.Error.{Error}
use Rattle.sled_batch.specs.Batch.{Writes}
use Rattle.sled_store.specs.In.{In}
use Rattle.sled_store.specs.Store.{Store, now}
use Rattle.sled_store.specs.Crash.{crash_states, IsCrashState, Crashes}
use Rattle.sled_store.proofs.Lists.{map_in}
use Rattle.sled_store.specs.theory.Facts.{may_leave_crashed}
use Rattle.sled_pages.specs.Memory.{store_of, flush_number_of}
use Rattle.sled_pages.specs.declared.memory.MemPages.{MemPages}
use Rattle.sled_model.specs.Maps.{Maps, Merge}
use Rattle.sled_model.specs.Whole.{DecidesPoint, RefusesPoint}
use Rattle.sled_model.specs.declared.call.Call.TheVariants.{Insert}
use Rattle.sled_model.specs.declared.reply.Reply.TheVariants.{Value}
use Rattle.sled_model.specs.declared.tree.Tree.{Tree}
use Rattle.sled_queues.specs.Events.{Turn}
use Rattle.sled_queues.specs.Turns.{turns_of_call}
use Rattle.tree_laws.specs.Contents.{trees_of}
use Rattle.tree_pages.specs.Export.{collections}
use Rattle.tree_transactions.specs.Attempts.{Answer, Closure, Ends}
use Rattle.tree_transactions.specs.Ids.{SetsAside}
use Rattle.tree_transactions.specs.Transactions.{Begins, left_of_tree}
use Rattle.tree_transactions.specs.declared.attempts.Commit.{Commit}
use Rattle.tree_transactions.specs.declared.errors.TransactionError.{TransactionError}
use Rattle.tree_transactions.specs.declared.errors.TransactionError.TheVariants.{Abort, Storage}
use Rattle.tree_transactions.specs.declared.tree.TransactionalTree.{TransactionalTree}
use Rattle.sled.specs.Direct.{PointDecided, PointRefused, RunsAtOnce}
use Rattle.sled.specs.Promises.{StopsCall, GivesUpCall, leaves_as}
use Rattle.sled.proofs.Promising.{decided_of_parts, refused_of_parts}
use Rattle.sled.specs.Flush.{FlushesDb, RefusesFlush}
use Rattle.sled.specs.Opens.{Opens, with_default}
use Rattle.sled.specs.Transactions.{Stops, ByTest, ByClosure, ByGroup, ByFlush, RunsOnTree, tests_tree, batch_of, TransactionMade, TransactionNotMade}
use Rattle.sled.specs.Values.{DbValue, db_state}
use Rattle.machine_shared.specs.Crashes.{LeadsThrough}
use Rattle.machine_shared.specs.History.{maps_from}
use Rattle.call_laws.specs.Calls.{MakesCalls, NoCall, OneCall, Called, DidPoint, PointStopped, Flushed, FlushStopped, alone, owned, IsRecord, LeavesBefore}
use Rattle.call_laws.specs.Hears.{IsKept, KeepsTree, turns_of_group, BringsAlone}
use Rattle.call_laws.specs.Laws.{committed, made_before_stop, uncommitted, turns_before_stop, turns_uncommitted, JoinedLaw, RecordLaw, TransactionLaw}
use Rattle.example_parts.proofs.Added.{matches_has}
use Rattle.example_owned.specs.Owned.{IsInsert, both_writes, IsBoth, IsFlush, IsOrder, FoundAfter, Goes}
use Rattle.example_owned.specs.declared.owned.Written.{Written}
use Rattle.example_owned.specs.Heard.{insert_brings, both_brings}
use Rattle.example_owned.specs.theory.Owned.{GoesQuietly, brings_nothing, WritesInside}

-- what is told of a call of the closure
abbrev Told : {P F R A E : Type 0} → Closure F (TransactionalTree P) R → (R → Answer A E) → F → Key → Key → Key → Type 0
Told {P} {R = R} says result_of f one other value = (shown left : MutBor (TransactionalTree P)) (answer : R) → says.post f (shown, tt) (answer, (left, tt)) → OnOk (result_of answer) (WritesInside shown.now one other value left.now)

module _ {P M : Type 0} (store : P → Store) (number : P → ℕ) (meant : M → Merge) where
  -- an insert and a flush, however they came out
  pub put_did : (old new : DbValue P M) (tree : Tree) (key value : Key) (stood : Option Key) → PointDecided store meant old tree (Insert key value) (Value stood) new
      → GoesQuietly store number meant old (IsInsert tree key value true) (insert_brings store number meant old tree key value true) new
  put_did old new tree key value stood d = record {
    turns = turns_of_call d.decides.named (Insert key value);
    tells = record { made = _; calls = OneCall (Called (DidPoint d)) NoCall; turns_are = append-nil (turns_of_call d.decides.named (Insert key value)); told_are = λ n. refl; kept = λ n. (refl, tt); keeps = λ name. (refl, tt) };
    is = (stood, refl);
    brought = (d.decides.named, d.decides.there, refl);
  }

  pub put_stopped : (old new : DbValue P M) (tree : Tree) (key value : Key) (e : Error) → PointRefused store meant old tree (Insert key value) e new
      → GoesQuietly store number meant old (IsInsert tree key value false) (insert_brings store number meant old tree key value false) new
  put_stopped old new tree key value e d = record {
    turns = [];
    tells = record { made = _; calls = OneCall (Called (PointStopped d)) NoCall; turns_are = refl; told_are = λ n. refl; kept = λ n. tt; keeps = λ name. tt };
    is = refl;
    brought = refl;
  }

  pub flush_did : (old new : DbValue P M) (n : ℕ) → FlushesDb store number meant old n new → GoesQuietly store number meant old (IsFlush true) brings_nothing new
  flush_did old new n d = record {
    turns = [];
    tells = record { made = _; calls = OneCall (Called (Flushed d)) NoCall; turns_are = refl; told_are = λ n. refl; kept = λ n. (refl, tt); keeps = λ name. (refl, tt) };
    is = (n, refl);
    brought = refl;
  }

  pub flush_stopped : (old new : DbValue P M) (e : Error) → RefusesFlush store meant old new e → GoesQuietly store number meant old (IsFlush false) brings_nothing new
  flush_stopped old new e d = record {
    turns = [];
    tells = record { made = _; calls = OneCall (Called (FlushStopped d)) NoCall; turns_are = refl; told_are = λ n. refl; kept = λ n. tt; keeps = λ name. tt };
    is = refl;
    brought = refl;
  }

  -- .. as their results tell
  pub put_goes : (old new : DbValue P M) (tree : Tree) (key value : Key) (r : Result (Option Key) Error) → IfOk r (λ stood. DecidesPoint (db_state store meant old) tree (Insert key value) (Value stood) (db_state store meant new))
      → IfErr r (λ e. RefusesPoint (db_state store meant old) (store old.pages) (store new.pages) tree (Insert key value) e (db_state store meant new)) → leaves_as store meant r old new → IfOk r (λ stood. RunsAtOnce store meant old tree (Insert key value) (Ok (Value stood)) new)
      → IfErr r (λ e. StopsCall store meant old tree (Insert key value) e new) → IfErr r (GivesUpCall (store old.pages) tree key)
      → GoesQuietly store number meant old (IsInsert tree key value (is_ok r)) (insert_brings store number meant old tree key value (is_ok r)) new
  put_goes old new tree key value (Ok stood) decides refuses leaves steps stops gives_up = put_did old new tree key value stood (decided_of_parts store meant old tree (Insert key value) (Value stood) new decides leaves steps)
  put_goes old new tree key value (Err e) decides refuses leaves steps stops gives_up = put_stopped old new tree key value e (refused_of_parts store meant old tree (Insert key value) e new refuses leaves stops gives_up)

  pub flush_goes : (old new : DbValue P M) (r : Result ℕ Error) → IfOk r (λ n. FlushesDb store number meant old n new) → IfErr r (λ e. RefusesFlush store meant old new e) → GoesQuietly store number meant old (IsFlush (is_ok r)) brings_nothing new
  flush_goes old new (Ok n) ok err = flush_did old new n ok
  flush_goes old new (Err e) ok err = flush_stopped old new e err

  -- a transaction
  module _ {F R A E : Type 0} (says : Closure F (TransactionalTree P) R) (result_of : R → Answer A E) (f : F) (old new : DbValue P M) (tree : Tree) (one other value : Key)
      (law : TransactionLaw store number meant says result_of) (told : Told says result_of f one other value) where
    -- what its closure wrote
    wrote : (root : ℕ) (answer : A) (writes : Writes) (flushes : Bool) (s : Store) (next : ℕ) → Ends says result_of f SetsAside (Begins store root) left_of_tree (store old.pages) old.greatest_id (Ok answer) writes flushes s next
        → (writes ≡ both_writes one other value) × (flushes ≡ false)
    wrote root answer writes flushes s next e =
        let c = e.last.calls in
        let w : WritesInside c.shown.now one other value c.left.now = subst (λ r. OnOk r (WritesInside c.shown.now one other value c.left.now)) c.tells (told c.shown c.left c.told c.met) in
        let is : e.last.after ≡ record e.last.given { overlay = put key_cmp other (Some value) (put key_cmp one (Some value) e.last.given.overlay) } =
        sym c.leaves ∙ w.is ∙ ap (λ (t : TransactionalTree P). record t { overlay = put key_cmp other (Some value) (put key_cmp one (Some value) t.overlay) }) c.shows in (
          e.last.writes_are ∙ ap (λ (t : TransactionalTree P). t.overlay) is ∙ ap (λ (ws : Writes). put key_cmp other (Some value) (put key_cmp one (Some value) ws)) e.last.fresh.empty,
          e.last.flushes_is ∙ ap (λ (t : TransactionalTree P). t.flushes) is ∙ e.last.fresh.quiet,
        )

    committed_so : (commit : Commit A Writes) (s : Store) (next : ℕ) → RunsOnTree store meant says result_of f old tree (Ok commit) s next → (commit.writes ≡ both_writes one other value) × (commit.flushes ≡ false)
    committed_so commit s next r = wrote r.root commit.answer commit.writes commit.flushes s next r.runs.is

    abbrev Brings : Writes → Bool → ℕ → List Turn → Type 0
    Brings writes flushes k turns = (calls : MakesCalls store number meant (alone old) (committed ((tree, writes) ∷ []) flushes k) (alone new)) × BringsAlone store number meant calls turns

    pub both_made : (a : A) → TransactionMade store number meant says result_of f old tree a new → GoesQuietly store number meant old (IsBoth tree one other value true) (both_brings store number meant old tree one other value true) new
    both_made a t =
        let k = law.made (alone old) new f tree a t in
        let w = committed_so t.commit (store t.run.pages) t.run.greatest_id t.makes.runs.runs in
        let turns = turns_of_group store number meant t.run ((tree, both_writes one other value) ∷ []) in
        let group : turns_of_group store number meant t.run ((tree, t.commit.writes) ∷ []) ≡ turns = ap (λ ws. turns_of_group store number meant t.run ((tree, ws) ∷ [])) w.0 in
        let calls : Brings (both_writes one other value) false k.0 turns =
        subst (λ ws. Brings ws false k.0 turns) w.0 (subst (λ b. Brings t.commit.writes b k.0 turns) w.1 (subst (λ ts. Brings t.commit.writes t.commit.flushes k.0 ts) group (k.1, k.2))) in
        record {
          turns = turns;
          tells = record { made = committed ((tree, both_writes one other value) ∷ []) false k.0; calls = calls.0; turns_are = calls.1.turns_are; told_are = calls.1.told; kept = λ n. (refl, tt); keeps = λ name. (refl, tt) };
          is = refl;
          brought = (t.run, t.makes.runs.takes, refl);
        }

    nothing_made : (e : Error) (k : Stops store number meant (tests_tree store meant old tree) (RunsOnTree store meant says result_of f old tree) (batch_of store number meant says result_of f old tree) true old e new) → made_before_stop k ≡ []
    nothing_made e (ByTest t same) = refl
    nothing_made e (ByClosure runs) = refl
    nothing_made e (ByGroup commit run runs refused quiet) = refl
    nothing_made e (ByFlush commit run made makes asked refused) = false_true (sym (committed_so commit (store run.pages) run.greatest_id makes.runs.runs).1 ∙ asked)

    none_made : (e : TransactionError E) (t : TransactionNotMade store number meant says result_of f old tree e new) → uncommitted e t ≡ []
    none_made (Abort x) t = refl
    none_made (Storage x) t = nothing_made x t.is

    nothing_brought : (e : Error) (k : Stops store number meant (tests_tree store meant old tree) (RunsOnTree store meant says result_of f old tree) (batch_of store number meant says result_of f old tree) true old e new) → turns_before_stop k ≡ []
    nothing_brought e (ByTest t same) = refl
    nothing_brought e (ByClosure runs) = refl
    nothing_brought e (ByGroup commit run runs refused quiet) = refl
    nothing_brought e (ByFlush commit run made makes asked refused) = false_true (sym (committed_so commit (store run.pages) run.greatest_id makes.runs.runs).1 ∙ asked)

    none_brought : (e : TransactionError E) (t : TransactionNotMade store number meant says result_of f old tree e new) → turns_uncommitted e t ≡ []
    none_brought (Abort x) t = refl
    none_brought (Storage x) t = nothing_brought x t.is

    pub both_stopped : (e : TransactionError E) → TransactionNotMade store number meant says result_of f old tree e new → GoesQuietly store number meant old (IsBoth tree one other value false) (both_brings store number meant old tree one other value false) new
    both_stopped e t =
        let k = law.not_made (alone old) new f tree e t in
        record {
          turns = [];
          tells = record {
            made = uncommitted e t;
            calls = k.0;
            turns_are = k.1.turns_are ∙ none_brought e t;
            told_are = k.1.told;
            kept = λ n. subst (IsKept n) (sym (none_made e t)) tt;
            keeps = λ name. subst (KeepsTree name) (sym (none_made e t)) tt;
          };
          is = none_made e t;
          brought = refl;
        }

    pub both_goes : (r : Result A (TransactionError E)) → IfOk r (λ a. TransactionMade store number meant says result_of f old tree a new) → IfErr r (λ e. TransactionNotMade store number meant says result_of f old tree e new)
        → GoesQuietly store number meant old (IsBoth tree one other value (is_ok r)) (both_brings store number meant old tree one other value (is_ok r)) new
    both_goes (Ok a) ok err = both_made a ok
    both_goes (Err e) ok err = both_stopped e err

  -- the calls of an order
  pub order_all : (tree : Tree) (key first second one other : Key) (joins : JoinedLaw store number meant) (written : Written) (a b c d e : DbValue P M) → GoesQuietly store number meant a (IsInsert tree key first written.insert) (insert_brings store number meant a tree key first written.insert) b
      → GoesQuietly store number meant b (IsBoth tree one other first written.both) (both_brings store number meant b tree one other first written.both) c → GoesQuietly store number meant c (IsFlush written.flush) brings_nothing d
      → GoesQuietly store number meant d (IsInsert tree key second written.later) (insert_brings store number meant d tree key second written.later) e → Goes store number meant a (IsOrder tree key first second one other written) e
  order_all tree key first second one other joins written a b c d e i g f l =
      let im = i.tells.made in let gm = g.tells.made in let fm = f.tells.made in let lm = l.tells.made in
      record {
        made = im ++ (gm ++ (fm ++ lm));
        calls = joins (alone a) (alone b) (alone e) im (gm ++ (fm ++ lm)) i.tells.calls (joins (alone b) (alone c) (alone e) gm (fm ++ lm) g.tells.calls (joins (alone c) (alone d) (alone e) fm lm f.tells.calls l.tells.calls));
        is = record { insert = im; both = gm; flush = fm; later = lm; is = refl; inserts = i.is; writes_both = g.is; flushes = f.is; inserts_later = l.is };
      }

-- what a crash leaves after such calls, and an opening finds
module _ {M N : Type 0} (meant : M → Merge) (key first second one other name : Key) where
  pub survives : (before : Store) (start last : DbValue MemPages M) (tree : Tree) (pages left : MemPages) (again : DbValue MemPages N) (end : MemPages) (keep : ℕ) (written : Written)
      → Opens store_of before name start
      → ((earlier : List Maps) → LeavesBefore (store_of start.pages) earlier → IsRecord store_of (alone start) (collections (trees_of (now (store_of start.pages))) start.trees) earlier [])
      → maps_from (collections (trees_of (now (store_of start.pages))) start.trees) ≡ trees_of (now (store_of start.pages))
      → RecordLaw store_of flush_number_of meant → Goes store_of flush_number_of meant start (IsOrder tree key first second one other written) last → pages ≡ last.pages → Crashes keep (store_of pages) (store_of left)
      → Opens store_of (store_of left) name again → end ≡ again.pages → FoundAfter (trees_of (now before)) (trees_of (now (store_of end))) key first second one other written
  survives before start last tree pages left again end keep written o begins maps law goes same crash reopens out =
      let opening = collections (trees_of (now (store_of start.pages))) start.trees in
      let r : IsRecord store_of (alone last) opening [] goes.made = law (alone start) (alone last) opening [] [] goes.made (begins [] (ap (map trees_of) o.left)) goes.calls in
      let may : IsCrashState (store_of pages) (store_of left).base = may_leave_crashed _ _ _ crash in
      let here : In (store_of left).base (crash_states (store_of last.pages)) = subst (λ (q : MemPages). In (store_of left).base (crash_states (store_of q))) same may.is in
      let base : now (store_of left) ≡ (store_of left).base = ap now crash.is ∙ sym (ap (λ (s : Store). s.base) crash.is) in
      record {
        start = maps_from opening;
        opens = maps ∙ o.maps;
        tree = tree;
        made = goes.made;
        order = goes.is;
        last = r.crashes.last;
        left = r.crashes.left;
        leads = subst (λ e. LeadsThrough (maps_from opening) (e ++ maps_from opening ∷ []) (owned goes.made) r.crashes.last r.crashes.left) r.begins r.crashes.leads;
        kept = trees_of (store_of left).base;
        one_left = matches_has (map trees_of (crash_states (store_of last.pages))) r.crashes.left (trees_of (store_of left).base) r.crashes.leaves.is (map_in trees_of (crash_states (store_of last.pages)) (store_of left).base here);
        is = ap (λ (q : MemPages). trees_of (now (store_of q))) out ∙ reopens.maps ∙ ap (λ z. with_default (trees_of z)) base;
      }
