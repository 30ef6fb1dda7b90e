-- What a call that is noted is as an event.
use Rattle.sled_host.specs.Event.{Event, opened, wrote, cut, synced}
use Rattle.sled_host.specs.declared.record.Call.{Call}
use Rattle.sled_host.specs.declared.record.Call.TheVariants.{Opened, Wrote, Cut, Synced}

abbrev pub event_of : Call → Event
event_of (Opened is_new bytes) = opened is_new bytes.now
event_of (Wrote at bytes done) = wrote at bytes.now done
event_of (Cut n done) = cut n done
event_of (Synced done) = synced done
