-- When advertisements are sent (RFC 4861, sections 6.2.2, 6.2.4, 6.2.5 and 6.2.6). Each question looks back over what happened.
use Rattle.std.specs.Prelude.{ℕ, ◌+◌, min, max, Bool, true, false, ◌&&◌, not, ◌==◌, nat_lt, is_some, is_none, if◌then◌else◌, List, [], ◌∷◌, Option, Some, None, option_map}
use Rattle.nd_table.specs.Due.{lesser}
use Rattle.nd_advertiser.specs.Config.{Settings, interval_range}
use Rattle.nd_advertiser.specs.History.{Row, Advertises, Assigned, Solicited, Sent, Ceased}

-- MIN_DELAY_BETWEEN_RAS: the time between two advertisements to all nodes (section 10)
abbrev pub min_delay_between_ras : ℕ
min_delay_between_ras = 3000

-- MAX_INITIAL_RTR_ADVERTISEMENTS: how many first ones come after a short time (section 10)
abbrev pub max_initial_rtr_advertisements : ℕ
max_initial_rtr_advertisements = 3

-- MAX_INITIAL_RTR_ADVERT_INTERVAL: that time at most (section 10)
abbrev pub max_initial_rtr_advert_interval : ℕ
max_initial_rtr_advert_interval = 16000

-- it is an advertising interface: the last that was asked of it is to advertise
abbrev pub is_on : List Row → Bool
is_on [] = false
is_on (Advertises at settings ∷ history) = true
is_on (Ceased at ∷ history) = false
is_on (_ ∷ history) = is_on history

-- the settings: the last ones
abbrev pub settings_of : List Row → Option Settings
settings_of [] = None
settings_of (Advertises at settings ∷ history) = Some settings
settings_of (_ ∷ history) = settings_of history

-- what it advertises, where it does
abbrev pub advertised_by : List Row → Option Settings
advertised_by history = if is_on history then settings_of history else None

-- the range of the next draw, where it advertises (section 6.2.4)
abbrev pub interval_of : List Row → Option (ℕ × ℕ)
interval_of history = option_map interval_range (advertised_by history)

-- when it became an advertising interface: when it was first to advertise since it last ceased
abbrev pub began_of : List Row → Option ℕ
began_of [] = None
began_of (Advertises at settings ∷ history) = if is_on history then began_of history else Some at
began_of (_ ∷ history) = began_of history

-- when its address was assigned
abbrev pub assigned_of : List Row → Option ℕ
assigned_of [] = None
assigned_of (Assigned at ∷ history) = Some at
assigned_of (_ ∷ history) = assigned_of history

-- how many advertisements it sent since it became an advertising interface
abbrev pub sent_of : List Row → ℕ
sent_of [] = 0
sent_of (Advertises at settings ∷ history) = if is_on history then sent_of history else 0
sent_of (Sent at interval ∷ history) = sent_of history + 1
sent_of (Ceased at ∷ history) = 0
sent_of (_ ∷ history) = sent_of history

-- ceasing sends a last advertisement where one was sent since then (section 6.2.5)
abbrev pub tells_its_end : List Row → Bool
tells_its_end history = is_on history && not (sent_of history == 0)

-- the last advertisement ever, that last one included
abbrev pub last_of : List Row → Option ℕ
last_of [] = None
last_of (Sent at interval ∷ history) = Some at
last_of (Ceased at ∷ history) = if tells_its_end history then Some at else last_of history
last_of (_ ∷ history) = last_of history

-- the time until the next one, behind so many: after the first three it is cut (section 6.2.4)
abbrev pub interval_after : ℕ → ℕ → ℕ
interval_after before interval =
    if nat_lt before max_initial_rtr_advertisements then min interval max_initial_rtr_advert_interval else interval

-- the planned date: that of the last advertisement since it became an advertising interface
abbrev pub planned_of : List Row → Option ℕ
planned_of [] = None
planned_of (Advertises at settings ∷ history) = if is_on history then planned_of history else None
planned_of (Sent at interval ∷ history) = Some (at + interval_after (sent_of history) interval)
planned_of (Ceased at ∷ history) = None
planned_of (_ ∷ history) = planned_of history

-- the date of an answer: after its delay, and so long after the last advertisement, where that is younger than this (section 6.2.6)
abbrev pub answer_date : Option ℕ → ℕ → ℕ → ℕ
answer_date None at delay = at + delay
answer_date (Some last) at delay =
    if nat_lt at (last + min_delay_between_ras) then last + min_delay_between_ras + delay else at + delay

-- the date of the answer to the first solicitation since the last advertisement, if one came
abbrev pub answer_of : List Row → Option ℕ
answer_of [] = None
answer_of (Advertises at settings ∷ history) = if is_on history then answer_of history else None
answer_of (Solicited at delay ∷ history) = if is_some (answer_of history) then answer_of history else Some (answer_date (last_of history) at delay)
answer_of (Sent at interval ∷ history) = None
answer_of (Ceased at ∷ history) = None
answer_of (_ ∷ history) = answer_of history

-- a solicitation has to be planned for: an advertisement was sent, and no answer is planned since
abbrev pub wants_draw_of : List Row → Bool
wants_draw_of history = is_on history && not (sent_of history == 0) && is_none (answer_of history)

-- the earliest moment that keeps the time between two advertisements
abbrev pub ready_after : Option ℕ → ℕ
ready_after None = 0
ready_after (Some last) = last + min_delay_between_ras

-- the date of the first advertisement, where the address is assigned
abbrev pub first_date : Option ℕ → Option ℕ → Option ℕ → Option ℕ
first_date (Some began) (Some assigned) last = Some (max (max began assigned) (ready_after last))
first_date (Some began) None last = None
first_date None assigned last = None

-- the date of the next one: the first, or the earlier of what is planned and what is answered
abbrev pub next_date : Option ℕ → Option ℕ → Option ℕ → Option ℕ
next_date first None answer = first
next_date first (Some planned) answer = lesser (Some planned) answer

abbrev pub next_of : List Row → Option ℕ
next_of history =
    if is_on history then next_date (first_date (began_of history) (assigned_of history) (last_of history)) (planned_of history) (answer_of history) else None
