-- What a life goes by that takes mail in and delivers none.
use Rattle.q_model.specs.Settings.{Settings}

-- Nothing comes into memory, so there is room for one message with one recipient.
abbrev pub intake_settings : Settings → Settings
intake_settings s = record s { active_limit = 1; recipient_limit = 1; recipient_minimum = 1 }
