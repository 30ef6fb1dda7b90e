-- What a call of the pages in memory does to the store that stands on them, whose mark and some of whose faults are its own.
use Rattle.std.proofs.Common.{◌≡◌, ℕ, ◌+◌, arith, ◌∙◌, ap}
use Rattle.std.specs.Prelude.{Option, Result, Ok, Err, IfOk, IfErr}
use Rattle.sled_nodes.specs.Order.{Key}
use Rattle.sled_nodes.specs.declared.error.Error.{Error}
use Rattle.sled_nodes.specs.declared.error.Error.TheVariants as error
use Rattle.sled_nodes.specs.declared.node.Node.{Node}
use Rattle.sled_store.specs.Faults.{IsFault, fault_as}
use Rattle.sled_store.specs.State.{Action}
use Rattle.sled_store.specs.Store.{Store, IsRefused, is_refused_as, IsReadRefused, is_read_refused_as, Frees, frees_as, Changes, changes_as, ActsAt, Allocates, SwapsRoot, swaps_as}
use Rattle.sled_files.specs.Stored.{over}

-- of what an answer says, where it is done or refused
pub if_ok : {A E : Type 0} {P Q : A → Type 0} (r : Result A E) → ((a : A) → P a → Q a) → IfOk r P → IfOk r Q
if_ok (Ok a) on h = on a h
if_ok (Err e) on h = h

pub if_err : {A E : Type 0} {P Q : E → Type 0} (r : Result A E) → ((e : E) → P e → Q e) → IfErr r P → IfErr r Q
if_err (Ok a) on h = h
if_err (Err e) on h = on e h

module _ (m k : ℕ) where
  counted : (n : ℕ) → k + (n + 1) ≡ (k + n) + 1
  counted n = omega arith

  faulted : (s : Store) → over m k (record s { faults = s.faults + 1 }) ≡ record (over m k s) { faults = (over m k s).faults + 1 }
  faulted s = ap (λ (n : ℕ). record s { mark = m; faults = n }) (counted s.faults)

  refused_as_over : (e : Error) (s t : Store) → is_refused_as e s t → is_refused_as e (over m k s) (over m k t)
  refused_as_over error.NoMemory s t is = ap (over m k) is
  refused_as_over (error.Io fault) s t is = ap (over m k) is ∙ faulted s
  refused_as_over other s t is = absurd is

  pub refused_over : {e : Error} {s t : Store} → IsRefused e s t → IsRefused e (over m k s) (over m k t)
  refused_over {e} {s} {t} r = record { is = refused_as_over e s t r.is }

  read_refused_as_over : (pid : ℕ) (s : Store) (e : Error) → is_read_refused_as pid s e → is_read_refused_as pid (over m k s) e
  read_refused_as_over pid s error.NoMemory is = is
  read_refused_as_over pid s (error.Io fault) is = is
  read_refused_as_over pid s other is = absurd is

  pub read_refused_over : {pid : ℕ} {s : Store} {e : Error} → IsReadRefused pid s e → IsReadRefused pid (over m k s) e
  read_refused_over {pid} {s} {e} r = record { is = read_refused_as_over pid s e r.is }

  frees_as_over : (pid version : ℕ) (s t : Store) (answer : Result (Unit {0}) (Option ℕ)) → frees_as pid version s t answer → frees_as pid version (over m k s) (over m k t) answer
  frees_as_over pid version s t (Ok done) is = (is.0, ap (over m k) is.1)
  frees_as_over pid version s t (Err present) is = (ap (over m k) is.0, is.1, is.2)

  pub frees_over : {pid version : ℕ} {s t : Store} {answer : Result (Unit {0}) (Option ℕ)} → Frees pid version s t answer → Frees pid version (over m k s) (over m k t) answer
  frees_over {pid} {version} {s} {t} {answer} f = record { is = frees_as_over pid version s t answer f.is }

  swaps_as_over : (name : Key) (expected proposed : Option ℕ) (s t : Store) (answer : Result (Unit {0}) (Option ℕ)) → swaps_as name expected proposed s t answer → swaps_as name expected proposed (over m k s) (over m k t) answer
  swaps_as_over name expected proposed s t (Ok done) is = (is.0, ap (over m k) is.1)
  swaps_as_over name expected proposed s t (Err present) is = (ap (over m k) is.0, is.1, is.2)

  pub swaps_over : {name : Key} {expected proposed : Option ℕ} {s t : Store} {answer : Result (Unit {0}) (Option ℕ)} → SwapsRoot name expected proposed s t answer → SwapsRoot name expected proposed (over m k s) (over m k t) answer
  swaps_over {name} {expected} {proposed} {s} {t} {answer} f = record { is = swaps_as_over name expected proposed s t answer f.is }

  acts_over : {a : Action} {version : ℕ} {s t : Store} → ActsAt a version s t → ActsAt a version (over m k s) (over m k t)
  acts_over h = record { fresh = h.fresh; is = ap (over m k) h.is }

  changes_as_over : (change : Node → Node) (pid version : ℕ) (s t : Store) (answer : Result ℕ (Option ℕ)) → changes_as change pid version s t answer → changes_as change pid version (over m k s) (over m k t) answer
  changes_as_over change pid version s t (Ok given) is = (is.0, is.1, acts_over is.2)
  changes_as_over change pid version s t (Err present) is = (ap (over m k) is.0, is.1, is.2)

  pub changes_over : {change : Node → Node} {pid version : ℕ} {s t : Store} {answer : Result ℕ (Option ℕ)} → Changes change pid version s t answer → Changes change pid version (over m k s) (over m k t) answer
  changes_over {change} {pid} {version} {s} {t} {answer} f = record { is = changes_as_over change pid version s t answer f.is }

  pub allocates_over : {node : Node} {pid version : ℕ} {s t : Store} → Allocates node pid version s t → Allocates node pid version (over m k s) (over m k t)
  allocates_over h = record { positive = h.positive; fresh_pid = h.fresh_pid; fresh = h.fresh; is = ap (over m k) h.is }

-- a fault of the files is counted
own_fault_as : (m k l : ℕ) (e : Error) (s : Store) → fault_as k l e → is_refused_as e (over m k s) (over m l s)
own_fault_as m k l error.NoMemory s is = ap (λ (n : ℕ). over m n s) is
own_fault_as m k l (error.Io fault) s is = ap (λ (n : ℕ). record s { mark = m; faults = n }) (more k l s.faults is)
  where
    more : (a b c : ℕ) → b ≡ a + 1 → b + c ≡ (a + c) + 1
    more a b c h = omega (arith, h)
own_fault_as m k l other s is = absurd is

pub own_fault : {m k l : ℕ} {e : Error} (s : Store) → IsFault k l e → IsRefused e (over m k s) (over m l s)
own_fault {m} {k} {l} {e} s f = record { is = own_fault_as m k l e s f.is }
