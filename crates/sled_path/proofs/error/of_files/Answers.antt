use Rattle.std.proofs.Common.{subst}
use Rattle.sled_files.specs.declared.found.OpenError.{OpenError}
use Rattle.sled_files.specs.Opening.{is_why_closed as is_why_unfiled}
use Rattle.sled_host.specs.Host.{bytes_of}
use Rattle.sled_path.proofs.error.of_files.Goals as goal

pub returns-in-NotAStore-clause-why : goal.returns-in-NotAStore-clause-why
returns-in-NotAStore-clause-why c = λ opening is_locked first second pair why. record { first = first; second = second; is_locked = is_locked; are = pair; why = subst (λ (e : OpenError). is_why_unfiled e (bytes_of first) (bytes_of second)) c.in-NotAStore.is why }

pub returns-in-NotAStore-clause-why_once : goal.returns-in-NotAStore-clause-why_once
returns-in-NotAStore-clause-why_once c = λ opening is_locked first second whole why. record { first = first; second = second; is_locked = is_locked; are = whole; why = subst (λ (e : OpenError). is_why_unfiled e (bytes_of first) (bytes_of second)) c.in-NotAStore.is why }

pub returns-in-OtherFormat-clause-why : goal.returns-in-OtherFormat-clause-why
returns-in-OtherFormat-clause-why c = λ opening is_locked first second pair why. record { first = first; second = second; is_locked = is_locked; are = pair; why = subst (λ (e : OpenError). is_why_unfiled e (bytes_of first) (bytes_of second)) c.in-OtherFormat.is why }

pub returns-in-OtherFormat-clause-why_once : goal.returns-in-OtherFormat-clause-why_once
returns-in-OtherFormat-clause-why_once c = λ opening is_locked first second whole why. record { first = first; second = second; is_locked = is_locked; are = whole; why = subst (λ (e : OpenError). is_why_unfiled e (bytes_of first) (bytes_of second)) c.in-OtherFormat.is why }

pub returns-in-Decayed-clause-why : goal.returns-in-Decayed-clause-why
returns-in-Decayed-clause-why c = λ opening is_locked first second pair why. record { first = first; second = second; is_locked = is_locked; are = pair; why = subst (λ (e : OpenError). is_why_unfiled e (bytes_of first) (bytes_of second)) c.in-Decayed.is why }

pub returns-in-Decayed-clause-why_once : goal.returns-in-Decayed-clause-why_once
returns-in-Decayed-clause-why_once c = λ opening is_locked first second whole why. record { first = first; second = second; is_locked = is_locked; are = whole; why = subst (λ (e : OpenError). is_why_unfiled e (bytes_of first) (bytes_of second)) c.in-Decayed.is why }
