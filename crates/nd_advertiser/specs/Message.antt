-- The message of an advertisement's contents.
use Rattle.nd_decode.specs.Message.{Parts}
use Rattle.nd_message.specs.Owned.{whole_of}
use Rattle.nd_advertiser.specs.declared.contents.Contents.{Contents}

abbrev pub message_in : Contents → Parts
message_in c = whole_of c.body c.options.items
