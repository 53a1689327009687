-- The parts of a token as values.
use Rattle.tsp_requester.specs.declared.time_stamp.TimeStamp.{TimeStamp}
use Rattle.tsp_requester.specs.Answering.{TokenValue}

abbrev pub token_value : TimeStamp → TokenValue
token_value t = record { signed = t.signed; signer = t.signer; stamp = t.stamp }
