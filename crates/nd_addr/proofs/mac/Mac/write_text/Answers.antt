use Rattle.nd_addr.proofs.MacTexts.{mac_text_spells, mac_text_is_ascii}
use Rattle.nd_addr.proofs.mac.Mac.write_text.Goals as goal

pub push_ascii-requires : goal.push_ascii-requires
push_ascii-requires g c = rw c.mac_digits.ensures (mac_text_is_ascii c.args.self.now.0 c.as_bytes-bytes.ensures.bytes.each)

pub returns-clause-spelled : goal.returns-clause-spelled
returns-clause-spelled g c = mac_text_spells c.args.self.now.0 c.as_bytes-bytes.ensures.bytes
