-- A prefix that a router advertises, from and to C (RFC 4861, section 6.2.1, AdvPrefixList).
use Rattle.std.specs.Prelude.{◌==◌, ◌&&◌, nat_le, Bool, if◌then◌else◌, Option, None, slice_index, replicate}
use Rattle.std.specs.Result.{result_ok}
use Rattle.nd_addr.specs.Prefix.{prefix_at}
use Rattle.nd_decode.specs.declared.prefix_info.PrefixInfo.{PrefixInfo}
use Rattle.nd_advertiser.specs.Config.{unless}
use Rattle.nd_advertiser.specs.Offer.{offer_fault}
use Rattle.nd_c_types.specs.Numbers.{flag_number, flag_in, is_flag}
use Rattle.nd_c_types.specs.declared.offer.OfferRow.{OfferRow}

abbrev pub offer_row : PrefixInfo → OfferRow
offer_row info = record {
  prefix = info.prefix.address.0;
  bits = info.prefix.length;
  valid_lifetime = info.valid_lifetime;
  preferred_lifetime = info.preferred_lifetime;
  on_link = flag_number info.on_link;
  autonomous = flag_number info.autonomous;
  reserved = replicate 2 0;
}

-- a length of at most 128, flags of 0 or 1, and nothing in the reserved fields
abbrev pub is_well_formed : OfferRow → Bool
is_well_formed row =
    nat_le row.bits 128 && is_flag row.on_link && is_flag row.autonomous && (slice_index row.reserved 0 == 0) && (slice_index row.reserved 1 == 0)

-- what its fields say
abbrev pub info_in : OfferRow → PrefixInfo
info_in row = record {
  prefix = prefix_at row.bits row.prefix;
  on_link = flag_in row.on_link;
  autonomous = flag_in row.autonomous;
  valid_lifetime = row.valid_lifetime;
  preferred_lifetime = row.preferred_lifetime;
}

-- the offer, if the fields are well formed and it breaks no rule
abbrev pub offer_of : OfferRow → Option PrefixInfo
offer_of row = if is_well_formed row then result_ok (unless (offer_fault (info_in row)) (info_in row)) else None
