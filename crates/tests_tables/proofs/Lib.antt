mod Payments
