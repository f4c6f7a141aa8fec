-- The numbers and names of the reasons.
use Rattle.std.specs.Prelude.{ℕ, List, codes}
use Rattle.nd_addr.specs.declared.why.Why.{Why}
use Rattle.nd_addr.specs.declared.why.Why.TheVariants.{FrameShort, NotIpv6, HeaderShort, Version, PayloadShort, Code, Length, OptionZero, OptionOver, HopLimit, Sum, Source, Target, UnspecifiedSlla, NotSolicitedNode, SolicitedMulticast, RedirectTarget, RedirectDestination, NotForUs, NotFirstHop}

abbrev pub number_of : Why → ℕ
number_of FrameShort = 1
number_of NotIpv6 = 2
number_of HeaderShort = 3
number_of Version = 4
number_of PayloadShort = 5
number_of Code = 6
number_of Length = 7
number_of OptionZero = 8
number_of OptionOver = 9
number_of HopLimit = 10
number_of Sum = 11
number_of Source = 12
number_of Target = 13
number_of UnspecifiedSlla = 14
number_of NotSolicitedNode = 15
number_of SolicitedMulticast = 16
number_of RedirectTarget = 17
number_of RedirectDestination = 18
number_of NotForUs = 19
number_of NotFirstHop = 20

abbrev pub name_of : Why → List ℕ
name_of FrameShort = codes "FrameShort"
name_of NotIpv6 = codes "NotIpv6"
name_of HeaderShort = codes "HeaderShort"
name_of Version = codes "Version"
name_of PayloadShort = codes "PayloadShort"
name_of Code = codes "Code"
name_of Length = codes "Length"
name_of OptionZero = codes "OptionZero"
name_of OptionOver = codes "OptionOver"
name_of HopLimit = codes "HopLimit"
name_of Sum = codes "Sum"
name_of Source = codes "Source"
name_of Target = codes "Target"
name_of UnspecifiedSlla = codes "UnspecifiedSlla"
name_of NotSolicitedNode = codes "NotSolicitedNode"
name_of SolicitedMulticast = codes "SolicitedMulticast"
name_of RedirectTarget = codes "RedirectTarget"
name_of RedirectDestination = codes "RedirectDestination"
name_of NotForUs = codes "NotForUs"
name_of NotFirstHop = codes "NotFirstHop"
