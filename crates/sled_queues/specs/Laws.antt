-- What the calls on queues do in the model, as laws.
use Rattle.std.specs.Prelude.{◌≡◌, ℕ, List, [], ◌∷◌, Option, Some, None, option_map}
use Rattle.sled_nodes.specs.Order.{Key}
use Rattle.sled_store.specs.Update.{put_at}
use Rattle.sled_model.specs.Backlog.{no_backlog, next_of}
use Rattle.sled_model.specs.State.{Queue, queues_after}
use Rattle.sled_model.specs.Queues.{backlog_in, without_next}
use Rattle.sled_model.specs.declared.event.Event.{Event}
use Rattle.sled_queues.specs.Values.{Waitings}
use Rattle.sled_queues.specs.Queues.{queues_of, IsCalm, with_subscriber, prepared, committed, cancelled, next_at, without_next_of, without_subscriber}

-- An event that is prepared is seen by no subscriber; once it is committed it is delivered, and nothing is prepared any more
pub record Delivers (queues : Waitings) (tree : ℕ) (e : Event) : Type 0 where
  pub hidden : queues_of (prepared tree e queues) ≡ queues_of queues
  pub shown : queues_of (committed (prepared tree e queues)) ≡ queues_after tree (Some e) (queues_of queues)
  pub calm : IsCalm (committed (prepared tree e queues))

abbrev pub DeliversLaw : Type 0
DeliversLaw = (queues : Waitings) → IsCalm queues → (tree : ℕ) (e : Event) → Delivers queues tree e

-- an event that is prepared and cancelled leaves all as it was
abbrev pub CancelsLaw : Type 0
CancelsLaw = (queues : Waitings) → IsCalm queues → (tree : ℕ) (e : Event) → cancelled (prepared tree e queues) ≡ queues

-- the other calls are those of the model
pub record Serves (queues : Waitings) : Type 0 where
  pub watches : (n tree : ℕ) (prefix : Key) → queues_of (with_subscriber n tree prefix queues) ≡ put_at (queues_of queues) n (Some (record { tree = tree; prefix = prefix; backlog = no_backlog }))
  pub gives : (n : ℕ) → next_at (queues n) ≡ next_of (backlog_in (queues_of queues n))
  pub takes : (n : ℕ) → queues_of (without_next_of n queues) ≡ put_at (queues_of queues) n (option_map without_next (queues_of queues n))
  pub gives_up : (n : ℕ) → queues_of (without_subscriber n queues) ≡ put_at (queues_of queues) n None

abbrev pub ServesLaw : Type 0
ServesLaw = (queues : Waitings) → Serves queues

-- if nothing is prepared, nothing is after the calls that prepare nothing
pub record StaysCalm (queues : Waitings) : Type 0 where
  pub watches : (n tree : ℕ) (prefix : Key) → IsCalm (with_subscriber n tree prefix queues)
  pub takes : (n : ℕ) → IsCalm (without_next_of n queues)
  pub gives_up : (n : ℕ) → IsCalm (without_subscriber n queues)

abbrev pub CalmLaw : Type 0
CalmLaw = (queues : Waitings) → IsCalm queues → StaysCalm queues

-- events, each with its tree, are prepared or delivered one after the other
abbrev pub prepared_all : List (ℕ × Event) → Waitings → Waitings
prepared_all [] queues = queues
prepared_all (e ∷ es) queues = prepared_all es (prepared e.0 e.1 queues)

abbrev pub delivered_all : List (ℕ × Event) → (ℕ → Option Queue) → ℕ → Option Queue
delivered_all [] queues = queues
delivered_all (e ∷ es) queues = delivered_all es (queues_after e.0 (Some e.1) queues)

-- Events of any trees that are prepared are seen by no subscriber; once they are committed they are delivered, in order; and if they are
-- cancelled all is as it was
pub record DeliversAll (queues : Waitings) (es : List (ℕ × Event)) : Type 0 where
  pub hidden : queues_of (prepared_all es queues) ≡ queues_of queues
  pub shown : queues_of (committed (prepared_all es queues)) ≡ delivered_all es (queues_of queues)
  pub calm : IsCalm (committed (prepared_all es queues))
  pub undone : cancelled (prepared_all es queues) ≡ queues

abbrev pub DeliversGroupLaw : Type 0
DeliversGroupLaw = (queues : Waitings) → IsCalm queues → (es : List (ℕ × Event)) → DeliversAll queues es
