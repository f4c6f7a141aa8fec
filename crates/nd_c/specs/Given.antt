-- The event that is given to a session.
use Rattle.nd_chronicle.specs.Event as events
use Rattle.nd_node.specs.Event.{event_of}
use Rattle.nd_c.specs.declared.answer.Given.{Given}
use Rattle.nd_c.specs.declared.answer.Given.TheVariants as given

abbrev pub event_given : Given → events.Event
event_given (given.Event event) = event_of event.now
event_given (given.Frame frame) = events.Receives frame.now
event_given (given.Packet source destination next_header payload) = events.Sends (record { 0 = source.now }) (record { 0 = destination.now }) next_header payload.now
