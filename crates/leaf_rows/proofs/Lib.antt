mod RangeLaws
mod RoundLaws
mod SplicingLaws
