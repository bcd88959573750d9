mod LogLaws
mod RuleLaws
mod SeatLaws
