mod CountLaws
mod CycleLaws
mod ScanLaws
