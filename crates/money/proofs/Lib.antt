mod MoneyReading
mod MoneyText
