-- What a transfer makes of the counters of a tree.
use Rattle.std.proofs.Common.{◌≡◌, ℕ, ◌+◌, ◌<◌, ◌≤◌, ◌^◌, false, Bool, [], ◌∷◌, T, Some, Result, Ok, Err, OnOk, IfOk, IfErr, refl, ap, ◌∙◌, subst, sym, arith}
use Rattle.std.specs.FinMap.Entries.{put, is_sorted, is_sorted-put}
use Rattle.std.specs.Int.{w64, to_be_bytes}
use Rattle.sled_nodes.proofs.Basics.{key_total}
use Rattle.sled_nodes.proofs.Put.{found_here, found_there}
use denote.Ref.{MutBor}
use Rattle.sled_nodes.specs.Order.{Key, key_cmp}
use Rattle.sled_batch.specs.Batch.{Writes}
use Rattle.sled_store.specs.Store.{Store}
use Rattle.sled_model.specs.Maps.{Maps, Merge}
use Rattle.sled_model.specs.declared.tree.Tree.{Tree}
use Rattle.tree_transactions.specs.Attempts.{Answer, Closure, Calls}
use Rattle.tree_transactions.specs.declared.attempts.Commit.{Commit}
use Rattle.tree_transactions.specs.declared.errors.ConflictableTransactionError.{ConflictableTransactionError}
use Rattle.tree_transactions.specs.declared.errors.ConflictableTransactionError.TheVariants as closure
use Rattle.tree_transactions.specs.declared.errors.TransactionError.{TransactionError}
use Rattle.tree_transactions.specs.declared.errors.TransactionError.TheVariants.{Abort, Storage}
use Rattle.tree_transactions.specs.declared.tree.TransactionalTree.{TransactionalTree}
use Rattle.tree_laws.specs.Contents.{trees_of}
use Rattle.sled.specs.Sound.{IsDb}
use Rattle.sled.specs.Transactions.{RunsOnTree, TransactionMade, TransactionNotMade, ShowsLaw}
use Rattle.sled.specs.Values.{DbValue}
use Rattle.example_parts.specs.Counters.{number_in, counter_in}
use Rattle.example_parts.specs.Reads.{maps_now}
use Rattle.example_parts.proofs.Reading.{number_read}
use Rattle.example_transactions.specs.Throughout.{HoldsThroughout, IsSettled, Recovers}
use Rattle.example_transactions.specs.Transfers.{come_to, Transfers, is_reason, EndsTransfer}
use Rattle.example_transactions.specs.declared.transfers.TransferError.{TransferError}
use Rattle.example_transactions.specs.declared.transfers.TransferError.TheVariants.{SameCounter, NotEnough, TooMuch}
use Rattle.example_transactions.specs.theory.Transfers.{CountsInside, MovesInside, GivesUpMove, gives_up_as}
use Rattle.example_transactions.proofs.Attempted.{makes_group, stops_before, Last, last_made, last_given_up, shown}
use Rattle.example_transactions.proofs.Made.{Wrote, found_by, MakesGroup, Stopped, NotWritten, same_maps, made_holds, stopped_holds, stopped_stays, one_wrote, one_kept}

-- what leaves the one counter comes to the other
sum_kept : (less more low high amount total : ℕ) → less + amount ≡ low → more ≡ high + amount → low + high ≡ total → less + more ≡ total
sum_kept less more low high amount total e f g = omega arith

-- what is told of a call of the closure
abbrev Told : {P F R A : Type 0} → (P → Store) → Closure F (TransactionalTree P) R → (R → Answer A TransferError) → F → Key → Key → ℕ → Type 0
Told {P} {R = R} store says result_of f from to amount = (shown left : MutBor (TransactionalTree P)) (answer : R) → says.post f (shown, tt) (answer, (left, tt))
    → OnOk (result_of answer) (MovesInside store shown.now from to amount left.now) × IfErr (result_of answer) (GivesUpMove store shown.now from to amount)

module _ {P M F R A : Type 0} (store : P → Store) (flush_number : P → ℕ) (meant : M → Merge) (says : Closure F (TransactionalTree P) R) (result_of : R → Answer A TransferError) (f : F) (old : DbValue P M) (tree : Tree) (from to : Key) (amount : ℕ)
    (law : ShowsLaw store meant) (sound : IsDb store old)
    (told : Told store says result_of f from to amount) where
  abbrev before : Maps
  before = maps_now store meant old

  -- what its closure did
  moves : (given after : TransactionalTree P) (a : A) → Calls says result_of f given (Ok a) after → MovesInside store given from to amount after
  moves given after a c =
      let m : MovesInside store c.shown.now from to amount c.left.now = subst (λ r. OnOk r (MovesInside store c.shown.now from to amount c.left.now)) c.tells (told c.shown c.left c.told c.met).0 in
      subst (λ t. MovesInside store t from to amount after) c.shows (subst (λ t. MovesInside store c.shown.now from to amount t) c.leaves m)

  gives_up : (given after : TransactionalTree P) (e : ConflictableTransactionError TransferError) → Calls says result_of f given (Err e) after → GivesUpMove store given from to amount e
  gives_up given after e c = subst (λ t. GivesUpMove store t from to amount e) c.shows (subst (λ r. IfErr r (GivesUpMove store c.shown.now from to amount)) c.tells (told c.shown c.left c.told c.met).1)

  quiet : (commit : Commit A Writes) (s : Store) (n : ℕ) → RunsOnTree store meant says result_of f old tree (Ok commit) s n → commit.flushes ≡ false
  quiet commit s n r =
      let l = last_made store meant says result_of f old tree commit s n r in
      l.flushes_are ∙ ap (λ (t : TransactionalTree P). t.flushes) (moves l.given l.after commit.answer l.calls).is ∙ l.unasked

  -- a counter stands at what is shown with nothing written
  module _ (answer : Answer A TransferError) (writes : Writes) (flushes : Bool) (l : Last store meant says result_of f old tree answer writes flushes) where
    counted : (name : Key) (n : ℕ) → CountsInside store l.given name n → n ≡ counter_in before tree.name name
    counted name n c = c.is ∙ ap number_in (shown store meant says result_of f old tree law sound answer writes flushes l name c.value c.shows)

    reason : (why : TransferError) → gives_up_as store l.given from to amount (closure.Abort why) → is_reason before tree.name from to amount why
    reason SameCounter same = same
    reason NotEnough (n, c, less) = subst (λ x. x < amount) (counted from n c) less
    reason TooMuch (n, c, more) = subst (λ x. 2 ^ 64 ≤ x + amount) (counted to n c) more

  -- ---- it is made

  module _ (a : A) (writes : Writes) (flushes : Bool) (l : Last store meant says result_of f old tree (Ok a) writes flushes) (new : DbValue P M) (g : MakesGroup store meant old ((tree, writes) ∷ []) new) where
    abbrev after : Maps
    after = maps_now store meant new

    m : MovesInside store l.given from to amount l.after
    m = moves l.given l.after a l.calls

    abbrev one : Writes
    one = put key_cmp from (Some (to_be_bytes w64 m.less)) []

    abbrev both : Writes
    both = put key_cmp to (Some (to_be_bytes w64 (m.stood + amount))) one

    both_are : writes ≡ both
    both_are = l.writes_are ∙ ap (λ (t : TransactionalTree P). t.overlay) m.is ∙ ap (λ (ws : Writes). put key_cmp to (Some (to_be_bytes w64 (m.stood + amount))) (put key_cmp from (Some (to_be_bytes w64 m.less)) ws)) l.empty

    rise : T (is_sorted key_cmp both)
    rise = is_sorted-put key_cmp key_total to (Some (to_be_bytes w64 (m.stood + amount))) one (is_sorted-put key_cmp key_total from (Some (to_be_bytes w64 m.less)) [] tt)

    made : MakesGroup store meant old ((tree, both) ∷ []) new
    made = subst (λ (ws : Writes). MakesGroup store meant old ((tree, ws) ∷ []) new) both_are g

    wrote : Wrote before after tree.name both
    wrote = one_wrote store meant old new tree both rise made

    from_now : counter_in after tree.name from ≡ m.less
    from_now =
        ap number_in (found_by wrote from (found_there from to (Some (to_be_bytes w64 (m.stood + amount))) one m.apart ∙ found_here from (Some (to_be_bytes w64 m.less)) []))
        ∙ number_read (to_be_bytes w64 m.less) m.less refl m.less_fits

    to_now : counter_in after tree.name to ≡ m.stood + amount
    to_now =
        ap number_in (found_by wrote to (found_here to (Some (to_be_bytes w64 (m.stood + amount))) one))
        ∙ number_read (to_be_bytes w64 (m.stood + amount)) (m.stood + amount) refl m.more_fits

    less_now : counter_in after tree.name from + amount ≡ counter_in before tree.name from
    less_now = ap (λ n. n + amount) from_now ∙ counted (Ok a) writes flushes l from (m.less + amount) m.had

    more_now : counter_in after tree.name to ≡ counter_in before tree.name to + amount
    more_now = to_now ∙ ap (λ n. n + amount) (counted (Ok a) writes flushes l to m.stood m.has)

    transfers : Transfers before after tree.name from to amount
    transfers = record {
      apart = m.apart;
      less = less_now;
      more = more_now;
      sum = sum_kept (counter_in after tree.name from) (counter_in after tree.name to) (counter_in before tree.name from) (counter_in before tree.name to) amount (counter_in before tree.name from + counter_in before tree.name to) less_now more_now refl;
      keys = λ other off-from off-to. found_by wrote other (found_there other to (Some (to_be_bytes w64 (m.stood + amount))) one off-to ∙ found_there other from (Some (to_be_bytes w64 m.less)) [] off-from);
      trees = one_kept store meant old new tree both rise made;
    }

    transfers_keep : (total : ℕ) → HoldsThroughout (store old.pages) (come_to tree.name from to total) → HoldsThroughout (store new.pages) (come_to tree.name from to total)
    transfers_keep total holds = made_holds store meant (come_to tree.name from to total) old new sound holds ((tree, both) ∷ []) made
        (λ sum. sum_kept (counter_in after tree.name from) (counter_in after tree.name to) (counter_in before tree.name from) (counter_in before tree.name to) amount total transfers.less transfers.more sum)

  module _ (a : A) (new : DbValue P M) (c : TransactionMade store flush_number meant says result_of f old tree a new) where
    grouped : MakesGroup store meant old ((tree, c.commit.writes) ∷ []) new
    grouped = makes_group store flush_number meant _ (RunsOnTree store meant says result_of f old tree) _ _ old quiet a new c

    attempted : Last store meant says result_of f old tree (Ok c.commit.answer) c.commit.writes c.commit.flushes
    attempted = last_made store meant says result_of f old tree c.commit _ _ c.makes.runs.runs

    transferred : Transfers before (maps_now store meant new) tree.name from to amount
    transferred = transfers c.commit.answer c.commit.writes c.commit.flushes attempted new grouped

    transferred_keeps : (total : ℕ) → HoldsThroughout (store old.pages) (come_to tree.name from to total) → HoldsThroughout (store new.pages) (come_to tree.name from to total)
    transferred_keeps = transfers_keep c.commit.answer c.commit.writes c.commit.flushes attempted new grouped

  -- ---- it is not

  stopped : (e : TransactionError TransferError) (new : DbValue P M) → TransactionNotMade store flush_number meant says result_of f old tree e new → Stopped store meant old new
  stopped (Abort why) new n = NotWritten n.is.takes
  stopped (Storage e) new n = stops_before store flush_number meant _ (RunsOnTree store meant says result_of f old tree) _ _ old quiet e new n.is

  ended : (e : TransactionError TransferError) (new : DbValue P M) → TransactionNotMade store flush_number meant says result_of f old tree e new → EndsTransfer store meant old tree.name from to amount new e
  ended (Abort why) new n =
      let g = last_given_up store meant says result_of f old tree why _ _ n.is.runs in
      record { is = (reason (Err (closure.Abort why)) g.writes g.flushes g.last why (gives_up g.last.given g.last.after (closure.Abort why) g.last.calls).is, same_maps store meant old new n.is.takes) }
  ended (Storage e) new n = record { is = stopped_stays store meant old new (stopped (Storage e) new n) }

  ended_keeps : (e : TransactionError TransferError) (new : DbValue P M) → TransactionNotMade store flush_number meant says result_of f old tree e new
      → (total : ℕ) → HoldsThroughout (store old.pages) (come_to tree.name from to total) → HoldsThroughout (store new.pages) (come_to tree.name from to total)
  ended_keeps e new n total holds = stopped_holds store meant (come_to tree.name from to total) old new sound holds (stopped e new n)

-- ---- the same, with what is told of the closure last

module _ {P M F R A : Type 0} (store : P → Store) (flush_number : P → ℕ) (meant : M → Merge) (says : Closure F (TransactionalTree P) R) (result_of : R → Answer A TransferError) (f : F) (old new : DbValue P M) (tree : Tree) (from to : Key) (amount : ℕ)
    (law : ShowsLaw store meant) (sound : IsDb store old) where
  pub transfer_made : (a : A) → TransactionMade store flush_number meant says result_of f old tree a new → Told store says result_of f from to amount → Transfers (maps_now store meant old) (maps_now store meant new) tree.name from to amount
  transfer_made a made told = transferred store flush_number meant says result_of f old tree from to amount law sound told a new made

  pub transfer_not_made : (e : TransactionError TransferError) → TransactionNotMade store flush_number meant says result_of f old tree e new → Told store says result_of f from to amount → EndsTransfer store meant old tree.name from to amount new e
  transfer_not_made e not told = ended store flush_number meant says result_of f old tree from to amount law sound told e new not

  pub transfer_keeps : (r : Result A (TransactionError TransferError)) → IfOk r (λ a. TransactionMade store flush_number meant says result_of f old tree a new) → IfErr r (λ e. TransactionNotMade store flush_number meant says result_of f old tree e new)
      → Told store says result_of f from to amount → (total : ℕ) → HoldsThroughout (store old.pages) (come_to tree.name from to total) → HoldsThroughout (store new.pages) (come_to tree.name from to total)
  transfer_keeps (Ok a) is not told = transferred_keeps store flush_number meant says result_of f old tree from to amount law sound told a new is
  transfer_keeps (Err e) is not told = ended_keeps store flush_number meant says result_of f old tree from to amount law sound told e new not

-- ---- over a crash

module _ (tree from to : Key) (total : ℕ) where
  -- what two counters come to in settled maps they come to throughout
  settled_sum : (s : Store) (maps : Maps) → IsSettled s maps → come_to tree from to total maps → HoldsThroughout s (come_to tree from to total)
  settled_sum s maps settled sum = record {
    as_is = λ is. subst (come_to tree from to total) (sym settled.as_is) sum;
    left = λ state may. subst (come_to tree from to total) (sym (settled.left state may)) sum;
  }

  recovered_sum : (old new : Store) (maps : Maps) → Recovers old new maps → HoldsThroughout old (come_to tree from to total) → come_to tree from to total maps
  recovered_sum old new maps r holds =
      ap (λ o. number_in o + counter_in maps tree to) (r.has tree from) ∙ ap (λ o. counter_in (trees_of r.state) tree from + number_in o) (r.has tree to) ∙ holds.left r.state r.may

  pub sum_survives : (first second third : Store) (one two three : Maps) → IsSettled first two → two ≡ one → (HoldsThroughout first (come_to tree from to total) → HoldsThroughout second (come_to tree from to total))
      → Recovers second third three → come_to tree from to total one → come_to tree from to total three
  sum_survives first second third one two three is same keeps r sum =
      recovered_sum second third three r (keeps (settled_sum first two is (subst (come_to tree from to total) (sym same) sum)))
